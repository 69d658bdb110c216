use Rattle.node_schedule.proofs.Once.{busy_once, found_once, missed_once, none_once, once_ended, once_forgotten, others_left}
use Rattle.node_schedule.proofs.Resumed.{resumed_once}
use Rattle.node_schedule.proofs.laws.who_is_called_is_left_alone.Goals as goal

pub returns-clause-resumed : goal.returns-clause-resumed
returns-clause-resumed c = resumed_once

pub returns-clause-ended : goal.returns-clause-ended
returns-clause-ended c = once_ended

pub returns-clause-found : goal.returns-clause-found
returns-clause-found c = found_once

pub returns-clause-busy : goal.returns-clause-busy
returns-clause-busy c = busy_once

pub returns-clause-missed : goal.returns-clause-missed
returns-clause-missed c = missed_once

pub returns-clause-forgotten : goal.returns-clause-forgotten
returns-clause-forgotten c = λ who old. (once_forgotten who old, others_left who old.slips)

pub returns-clause-none : goal.returns-clause-none
returns-clause-none c = none_once
