use Rattle.std.proofs.Common.{◌∙◌, List, [], inl, inr, refl, sym, ap, subst, arith}
use Rattle.state_ids.specs.Fronts.{count}
use Rattle.state_forest.specs.declared.merging.Told.{Told}
use Rattle.theory_history.specs.Merging.{IsTelling, Telling}
use Rattle.state_replica.specs.Replicas.{view_of}
use Rattle.state_replica.proofs.Absorbed.{IsTakenSo, next_broken, next_taken, next_within, taken_none}
use Rattle.state_replica.proofs.Rooms.{keeps_on}
use Rattle.state_replica.proofs.replica.Replica.absorb_homes.Goals as goal

pub loop-told-init : goal.loop-told-init
loop-told-init c =
    record { so = so; stays = record { homes = λ home some. omega arith; index = omega arith } }
  where
    so : IsTakenSo (view_of c.args.self.now) c.args.taken c.args.self.now c.args.patch.now c.args.patch.now c.into_iter-told-iterator.result.rest.items
    so = record {
      done = [];
      all = ap (λ (t : Telling). t.homes) (sym c.taken.view_is) ∙ sym c.into_iter-told-iterator.ensures.into_iter_gives.0;
      view = refl;
      front = refl;
      purges = refl;
      so = taken_none (view_of c.args.self.now) c.args.taken c.args.self.now.homes c.args.patch.now c.requires.none.0 c.requires.none.1;
    }

pub absorb_home-requires : goal.absorb_home-requires
absorb_home-requires c =
    let is = subst (λ (t : Telling). IsTelling t) c.taken.view_is c.taken.invariant in
    let so = subst (λ (ts : List Told). IsTakenSo (view_of c.args.self.now) c.args.taken c.loop-told.self c.loop-told.patch c.args.patch.now ts) c.in-Some.ensures.steps.0 c.loop-told.invariant.so in
    next_within (view_of c.args.self.now) c.args.taken c.loop-told.self c.loop-told.patch c.args.patch.now c.in-Some.told c.next.new.self.rest.items is c.requires.nodes so

pub returns-in-Err-clause-refused : goal.returns-in-Err-clause-refused
returns-in-Err-clause-refused c =
    let is = subst (λ (t : Telling). IsTelling t) c.taken.view_is c.taken.invariant in
    let so = subst (λ (ts : List Told). IsTakenSo (view_of c.args.self.now) c.args.taken c.loop-told.self c.loop-told.patch c.args.patch.now ts) c.in-Some.ensures.steps.0 c.loop-told.invariant.so in
    let far = c.count-reach.ensures ∙ ap (count c.taken.inside.front) c.home.ensures ∙ ap (λ (t : Telling). count t.front c.in-Some.told.records.home) c.taken.view_is in
    elim c.in-Err.ensures.refused [
      | inl memory ↦ inl memory
      | inr broken ↦ inr (
        broken.0,
        λ v absorbed front shape.
            next_broken (view_of c.args.self.now) c.args.taken c.loop-told.self c.loop-told.patch c.args.patch.now c.in-Some.told c.next.new.self.rest.items is c.requires.nodes so
            v c.count-reach.result far broken.1 absorbed front shape,
      )
    ]

pub loop-told-preserved : goal.loop-told-preserved
loop-told-preserved c =
    let is = subst (λ (t : Telling). IsTelling t) c.taken.view_is c.taken.invariant in
    let so = subst (λ (ts : List Told). IsTakenSo (view_of c.args.self.now) c.args.taken c.loop-told.self c.loop-told.patch c.args.patch.now ts) c.in-Some.ensures.steps.0 c.loop-told.invariant.so in
    let far = c.count-reach.ensures ∙ ap (count c.taken.inside.front) c.home.ensures ∙ ap (λ (t : Telling). count t.front c.in-Some.told.records.home) c.taken.view_is in
    let done = c.in_default.ensures in
    let taken = next_taken (view_of c.args.self.now) c.args.taken c.loop-told.self c.loop-told.patch c.args.patch.now c.in-Some.told c.next.new.self.rest.items is c.requires.nodes so
    c.absorb_home.new.self c.absorb_home.new.patch c.count-reach.result far done.view done.front done.purges done.room.homes done.grown in
    record { so = taken; stays = keeps_on c.args.self.now c.loop-told.self c.absorb_home.new.self c.loop-told.invariant.stays done.room }

pub returns-in-Err-clause-stays : goal.returns-in-Err-clause-stays
returns-in-Err-clause-stays c = keeps_on c.args.self.now c.loop-told.self c.absorb_home.new.self c.loop-told.invariant.stays c.in-Err.ensures.room

pub returns-clause-stays : goal.returns-clause-stays
returns-clause-stays c = c.loop-told.invariant.stays
