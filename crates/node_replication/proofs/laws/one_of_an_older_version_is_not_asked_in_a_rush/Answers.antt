use Rattle.node_replication.proofs.Rushing.{in_a_row}
use Rattle.node_replication.proofs.laws.one_of_an_older_version_is_not_asked_in_a_rush.Goals as goal

pub returns : goal.returns
returns c = in_a_row
