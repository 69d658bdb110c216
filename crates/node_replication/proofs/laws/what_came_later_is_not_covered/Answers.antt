use Rattle.node_replication.proofs.Stored.{came_later}
use Rattle.node_replication.proofs.laws.what_came_later_is_not_covered.Goals as goal

pub returns : goal.returns
returns c = came_later
