use Rattle.std.proofs.Common.{◌∙◌, None, subst, sym}
use Rattle.node_replication.specs.Followers.{IsListed}
use Rattle.node_replication.proofs.Reaching.{asked, called, outdated, stood_reached}
use Rattle.node_replication.specs.Waits.{Wait}
use Rattle.node_replication.proofs.followers_state.FollowersState.take_list.Goals as goal

pub invariant_of-self-in-Outdated : goal.invariant_of-self-in-Outdated
invariant_of-self-in-Outdated g c = (
  stood_reached c.self.inside.waiters.calls c.args.now c.self.inside.is_strict _ c.self.inside.replication _ c.self.invariant.0 c.take_calls.ensures.stood,
  subst (λ (w : Wait). IsListed w.calls None) (sym c.take_calls.ensures.after)
      (outdated _ c.self.inside.waiters.calls c.args.now c.self.inside.is_strict c.self.inside.replication c.self.inside.waiters (sym c.take_calls.ensures.fate ∙ c.in-Outdated.is)),
)

pub invariant_of-self-in-Called : goal.invariant_of-self-in-Called
invariant_of-self-in-Called g c = (
  stood_reached c.self.inside.waiters.calls c.args.now c.self.inside.is_strict _ c.self.inside.replication _ c.self.invariant.0 c.take_calls.ensures.stood,
  subst (IsListed c.take_calls.new.self.calls) (sym c.take-list.ensures.after) (subst (λ (w : Wait). IsListed w.calls None) (sym c.take_calls.ensures.after)
      (called _ c.self.inside.waiters.calls c.args.now c.self.inside.is_strict c.in-Called.asks_again c.self.inside.replication c.self.inside.waiters (sym c.take_calls.ensures.fate ∙ c.in-Called.is))),
)

pub invariant_of-self-in-Asked : goal.invariant_of-self-in-Asked
invariant_of-self-in-Asked g c = (
  stood_reached c.self.inside.waiters.calls c.args.now c.self.inside.is_strict _ c.self.inside.replication _ c.self.invariant.0 c.take_calls.ensures.stood,
  subst (λ (w : Wait). IsListed w.calls c.self.inside.list) (sym c.take_calls.ensures.after)
      (asked c.self.inside.waiters.calls c.args.now c.self.inside.is_strict c.self.inside.replication c.self.inside.waiters c.self.inside.list (sym c.take_calls.ensures.fate ∙ c.in-Asked.is) c.self.invariant.1),
)
