use Rattle.node_schedule.proofs.Hanging.{ended_hanging, forgotten_hanging, hanging_below, hanging_few, noted_hanging, put_hanging, recalled_hanging, taken_hanging}
use Rattle.node_schedule.proofs.laws.hosts_that_hang_hold_two_callers.Goals as goal

pub returns-clause-begins : goal.returns-clause-begins
returns-clause-begins c = hanging_few

pub returns-clause-taken : goal.returns-clause-taken
returns-clause-taken c = taken_hanging

pub returns-clause-ended : goal.returns-clause-ended
returns-clause-ended c = ended_hanging

pub returns-clause-three : goal.returns-clause-three
returns-clause-three c = hanging_below

pub returns-clause-put : goal.returns-clause-put
returns-clause-put c = put_hanging

pub returns-clause-noted : goal.returns-clause-noted
returns-clause-noted c = noted_hanging

pub returns-clause-recalled : goal.returns-clause-recalled
returns-clause-recalled c = recalled_hanging

pub returns-clause-forgotten : goal.returns-clause-forgotten
returns-clause-forgotten c = forgotten_hanging
