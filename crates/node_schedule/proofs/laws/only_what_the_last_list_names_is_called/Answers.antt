use Rattle.std.proofs.Common.{arith}
use Rattle.node_schedule.proofs.Latest.{busy_no_call, forgotten_no_call, found_no_call, missed_before, missed_behind, missed_no_call, taken_others}
use Rattle.node_schedule.proofs.Resumed.{resumed_no_call}
use Rattle.node_schedule.proofs.laws.only_what_the_last_list_names_is_called.Goals as goal

pub returns-clause-before : goal.returns-clause-before
returns-clause-before c = missed_before

pub returns-clause-behind : goal.returns-clause-behind
returns-clause-behind c = missed_behind

pub returns-clause-taken : goal.returns-clause-taken
returns-clause-taken c = taken_others

pub returns-clause-resumed : goal.returns-clause-resumed
returns-clause-resumed c = resumed_no_call

pub returns-clause-ended : goal.returns-clause-ended
returns-clause-ended c = λ duty pace now who. omega arith

pub returns-clause-found : goal.returns-clause-found
returns-clause-found c = found_no_call

pub returns-clause-busy : goal.returns-clause-busy
returns-clause-busy c = busy_no_call

pub returns-clause-missed : goal.returns-clause-missed
returns-clause-missed c = missed_no_call

pub returns-clause-forgotten : goal.returns-clause-forgotten
returns-clause-forgotten c = forgotten_no_call
