use Rattle.wire_callbacks.proofs.Unheard.{cut_heard, cut_heard_left}
use Rattle.wire_callbacks.proofs.laws.a_cut_answer_is_heard_again.Goals as goal

pub returns-clause-given : goal.returns-clause-given
returns-clause-given c = cut_heard

pub returns-clause-left : goal.returns-clause-left
returns-clause-left c = cut_heard_left
