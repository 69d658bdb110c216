use Rattle.node_replication.proofs.Reaching.{reach}
use Rattle.node_replication.specs.Steps.{Asks}
use Rattle.node_replication.proofs.followers_state.FollowersState.ask.Goals as goal

pub invariant_of-self : goal.invariant_of-self
invariant_of-self g c = (reach Asks _ c.self.inside.replication _ c.self.invariant.0 c.ask.ensures.drawn, c.self.invariant.1)
