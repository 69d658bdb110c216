use Rattle.wire_callbacks.proofs.Called.{broken_so}
use Rattle.wire_callbacks.proofs.laws.an_answer_is_broken_only_so.Goals as goal

pub returns : goal.returns
returns c = broken_so
