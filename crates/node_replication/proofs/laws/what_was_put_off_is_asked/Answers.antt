use Rattle.node_replication.proofs.Lists.{put_off}
use Rattle.node_replication.proofs.laws.what_was_put_off_is_asked.Goals as goal

pub returns : goal.returns
returns c = put_off
