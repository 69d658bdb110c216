use Rattle.state_book.proofs.OneNext.{one_next_reply}
use Rattle.state_book.proofs.laws.a_call_has_one_reply.Goals as goal

pub returns : goal.returns
returns c = one_next_reply
