use Rattle.node_schedule.proofs.Hanging.{slow_beside, slow_is_next, slow_may_be_called}
use Rattle.node_schedule.proofs.laws.a_slow_host_waits_for_no_host_that_hangs.Goals as goal

pub returns-clause-may : goal.returns-clause-may
returns-clause-may c = slow_may_be_called

pub returns-clause-beside : goal.returns-clause-beside
returns-clause-beside c = slow_beside

pub returns-clause-next : goal.returns-clause-next
returns-clause-next c = slow_is_next
