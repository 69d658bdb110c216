use Rattle.std.proofs.Common.{refl}
use Rattle.node_replication.proofs.Reaching.{reach}
use Rattle.node_replication.specs.Steps.{Looks}
use Rattle.node_replication.proofs.followers_state.FollowersState.keep_list.Goals as goal

pub invariant_of-self : goal.invariant_of-self
invariant_of-self g c = (reach Looks _ c.self.inside.replication _ c.self.invariant.0 c.target-ticket.ensures.looked, c.self.invariant.1)

pub invariant_of-self-2 : goal.invariant_of-self-2
invariant_of-self-2 g c = (reach Looks _ c.self.inside.replication _ c.self.invariant.0 c.target-ticket.ensures.looked, rw c.hold_calls.ensures refl)
