use Rattle.node_schedule.proofs.Once.{begins_once, once_taken}
use Rattle.node_schedule.proofs.laws.who_is_taken_was_not_called.Goals as goal

pub returns-clause-begins : goal.returns-clause-begins
returns-clause-begins c = begins_once

pub returns-clause-keeps : goal.returns-clause-keeps
returns-clause-keeps c = once_taken
