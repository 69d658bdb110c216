use Rattle.wire_narayana.proofs.OneAnswer.{one_answer}
use Rattle.wire_narayana.proofs.message.one_answer.Goals as goal

pub returns : goal.returns
returns c = one_answer
