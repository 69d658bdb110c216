use Rattle.node_schedule.proofs.Waiting.{quick_is_next, quick_may_be_called}
use Rattle.node_schedule.proofs.laws.a_quick_host_waits_for_no_call.Goals as goal

pub returns-clause-may : goal.returns-clause-may
returns-clause-may c = quick_may_be_called

pub returns-clause-next : goal.returns-clause-next
returns-clause-next c = quick_is_next
