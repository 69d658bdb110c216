use Rattle.node_agenda.proofs.Waiting.{over_by_then}
use Rattle.node_agenda.proofs.laws.a_wait_is_over_when_there_is_a_task.Goals as goal

pub returns : goal.returns
returns c = over_by_then
