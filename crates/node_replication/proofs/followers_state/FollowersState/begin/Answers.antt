use Rattle.node_replication.proofs.Reaching.{reach}
use Rattle.node_replication.specs.Steps.{Begins}
use Rattle.node_replication.proofs.followers_state.FollowersState.begin.Goals as goal

pub invariant_of-self : goal.invariant_of-self
invariant_of-self g c = (reach Begins _ c.self.inside.replication _ c.self.invariant.0 c.begin.ensures, c.self.invariant.1)
