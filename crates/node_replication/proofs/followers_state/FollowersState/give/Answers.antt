use Rattle.node_replication.proofs.Reaching.{reach}
use Rattle.node_replication.specs.Steps.{Gives}
use Rattle.node_replication.proofs.followers_state.FollowersState.give.Goals as goal

pub invariant_of-self : goal.invariant_of-self
invariant_of-self g c = (reach (Gives (record { ticket = c.args.ticket; count = c.args.count; at = c.args.now })) _ c.self.inside.replication _ c.self.invariant.0 c.give.ensures, c.self.invariant.1)
