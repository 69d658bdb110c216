use Rattle.std.proofs.Common.{◌∙◌, ap, subst, sym}
use Rattle.node_replication.specs.Followers.{IsListed, MayGo}
use Rattle.node_replication.proofs.Reaching.{may_go, reach, same_calls}
use Rattle.node_replication.specs.Steps.{Stands}
use Rattle.node_replication.specs.Waits.{Wait}
use Rattle.node_replication.proofs.followers_state.FollowersState.stand.Goals as goal

pub invariant_of-self : goal.invariant_of-self
invariant_of-self g c = (
  reach (Stands c.args.ticket c.args.since c.args.now c.self.inside.is_strict) _ c.self.inside.replication _ c.self.invariant.0 c.stand.ensures.stood,
  subst (λ calls. IsListed calls c.self.inside.list) (sym (ap (λ (w : Wait). w.calls) c.stand.ensures.counted ∙ same_calls _ c.self.inside.waiters)) c.self.invariant.1,
)

pub returns-clause-copied : goal.returns-clause-copied
returns-clause-copied g c =
    λ copied. subst (MayGo c.args.ticket) c.self.view_is (may_go c.args.ticket c.args.since c.args.now _ c.self.invariant (sym c.stand.ensures.standing ∙ copied))
