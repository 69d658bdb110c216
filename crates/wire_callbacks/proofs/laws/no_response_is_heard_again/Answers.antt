use Rattle.wire_callbacks.proofs.Unheard.{none_heard, none_heard_left}
use Rattle.wire_callbacks.proofs.laws.no_response_is_heard_again.Goals as goal

pub returns-clause-given : goal.returns-clause-given
returns-clause-given c = none_heard

pub returns-clause-left : goal.returns-clause-left
returns-clause-left c = none_heard_left
