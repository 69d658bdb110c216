use Rattle.std.proofs.Common.{subst}
use Rattle.theory_history.specs.Merging.{TellsNews}
use Rattle.state_replica.specs.Replicas.{ReplicaState, view_of}
use Rattle.state_replica.proofs.Tellings.{all_told, one_more_told, telling_kept, tells_news}
use Rattle.state_replica.proofs.replica.Replica.tell_news.Goals as goal

pub loop-home-preserved : goal.loop-home-preserved
loop-home-preserved c =
    one_more_told (view_of c.args.other.now) c.deref-home-items.result.now c.loop-home.homes.items c.push.new.self.items c.loop-home.home-index c.home-item.result _
    c.loop-home-test.true c.home-item.is c.in_ok-push.ensures.items c.in_ok-told_by.ensures c.loop-home.invariant

pub invariant_of-result : goal.invariant_of-result
invariant_of-result c =
    telling_kept (view_of c.args.other.now) (record { front = c.self.inside.front; purges = c.self.inside.purges; homes = c.self.inside.homes.items; index = c.self.inside.index }) c.loop-home.homes.items
    (all_told (view_of c.args.other.now) c.self.inside.homes.items c.deref-home-items.result.now c.loop-home.homes.items c.loop-home.home-index c.deref-home-items.ensures.value c.loop-home-test.false c.loop-home.invariant)
    c.self.invariant

pub returns : goal.returns
returns c =
    subst (λ (kept : ReplicaState). TellsNews (view_of c.args.other.now) (record { front = c.self.inside.front; purges = c.self.inside.purges; homes = c.loop-home.homes.items }) (view_of kept)) c.self.view_is
    (tells_news (view_of c.args.other.now) (record { front = c.self.inside.front; purges = c.self.inside.purges; homes = c.self.inside.homes.items; index = c.self.inside.index }) c.loop-home.homes.items
    (all_told (view_of c.args.other.now) c.self.inside.homes.items c.deref-home-items.result.now c.loop-home.homes.items c.loop-home.home-index c.deref-home-items.ensures.value c.loop-home-test.false c.loop-home.invariant)
    c.self.invariant)
