use Rattle.node_replication.proofs.Reaching.{reach}
use Rattle.node_replication.specs.Steps.{Ends}
use Rattle.node_replication.proofs.followers_state.FollowersState.end.Goals as goal

pub invariant_of-self : goal.invariant_of-self
invariant_of-self g c = (reach (Ends c.args.is_stored) _ c.self.inside.replication _ c.self.invariant.0 c.end-ticket.ensures.ended, c.self.invariant.1)
