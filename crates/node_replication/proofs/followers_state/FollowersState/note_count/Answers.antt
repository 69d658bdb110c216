use Rattle.node_replication.proofs.Reaching.{reach}
use Rattle.node_replication.specs.Steps.{Learns}
use Rattle.node_replication.proofs.followers_state.FollowersState.note_count.Goals as goal

pub invariant_of-self : goal.invariant_of-self
invariant_of-self g c = (reach (Learns c.args.count) _ c.self.inside.replication _ c.self.invariant.0 c.note_count.ensures, c.self.invariant.1)
