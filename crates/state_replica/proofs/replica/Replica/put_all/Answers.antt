use Rattle.std.proofs.Common.{◌≤◌, ◌∙◌, ℕ, List, length, sym, ap, refl, arith, subst}
use Rattle.std.specs.List.{AllByRecursion}
use Rattle.state_forest.specs.declared.record.Record.{Record}
use Rattle.state_replica.specs.Replicas.{count_of_home, spare_at, view_of}
use Rattle.theory_history.specs.Changes.{put_each}
use Rattle.state_replica.proofs.Rooms.{count_here, count_first, none_left}
use Rattle.state_replica.proofs.replica.Replica.put_all.Goals as goal

pub loop-added-init : goal.loop-added-init
loop-added-init c = let items = c.into_iter-added-iterator.ensures.into_iter_gives.0 in rw items (refl, refl, refl, c.requires.homes, c.requires.room, c.requires.entries)

pub put-requires-clause-home : goal.put-requires-clause-home
put-requires-clause-home c =
    let left = subst (λ (rs : List Record). AllByRecursion (λ (r : Record). r.home ≤ length c.args.self.now.front) rs) c.in-Some.ensures.steps.0 c.loop-added.invariant.3 in
    omega (arith, left.0, ap (λ (v : List ℕ). length v) c.loop-added.invariant.0)

pub put-requires-clause-room : goal.put-requires-clause-room
put-requires-clause-room c some =
    omega (arith, count_here c.in-Some.added c.next.new.self.rest.items, c.loop-added.invariant.4 c.in-Some.added.home some, ap (count_of_home c.in-Some.added.home) c.in-Some.ensures.steps.0)

pub put-requires-clause-entries : goal.put-requires-clause-entries
put-requires-clause-entries c = omega (arith, c.loop-added.invariant.5, ap (λ (rs : List Record). length rs) c.in-Some.ensures.steps.0)

pub loop-added-preserved : goal.loop-added-preserved
loop-added-preserved c =
    let steps = c.in-Some.ensures.steps.0 in
    let left = subst (λ (rs : List Record). AllByRecursion (λ (r : Record). r.home ≤ length c.args.self.now.front) rs) steps c.loop-added.invariant.3 in (
      c.put.ensures.front ∙ c.loop-added.invariant.0,
      c.put.ensures.purges ∙ c.loop-added.invariant.1,
      ap (put_each c.next.new.self.rest.items) c.put.ensures.records ∙ sym (ap (λ (rs : List Record). put_each rs (view_of c.loop-added.self).records) steps) ∙ c.loop-added.invariant.2,
      left.1,
      λ home some. count_first home c.in-Some.added c.next.new.self.rest.items _ _ (subst (λ (rs : List Record). count_of_home home rs ≤ spare_at c.loop-added.self.homes home) steps (c.loop-added.invariant.4 home some)) (c.put.ensures.room home some),
      omega (arith, c.loop-added.invariant.5, ap (λ (rs : List Record). length rs) steps, c.put.ensures.entries),
    )

pub returns-clause-front : goal.returns-clause-front
returns-clause-front c = c.loop-added.invariant.0

pub returns-clause-purges : goal.returns-clause-purges
returns-clause-purges c = c.loop-added.invariant.1

pub returns-clause-records : goal.returns-clause-records
returns-clause-records c =
    let none = none_left c.loop-added.added-iterator.rest.items (omega (arith, c.in-None.ensures.steps.0, c.loop-added.added-iterator.rest.ok)) in
    sym (ap (λ (rs : List Record). put_each rs (view_of c.loop-added.self).records) none) ∙ c.loop-added.invariant.2
