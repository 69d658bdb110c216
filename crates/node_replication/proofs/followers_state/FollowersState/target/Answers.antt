use Rattle.node_replication.proofs.Reaching.{reach}
use Rattle.node_replication.specs.Steps.{Looks}
use Rattle.node_replication.proofs.followers_state.FollowersState.target.Goals as goal

pub invariant_of-self : goal.invariant_of-self
invariant_of-self g c = (reach Looks _ c.self.inside.replication _ c.self.invariant.0 c.target.ensures.looked, c.self.invariant.1)
