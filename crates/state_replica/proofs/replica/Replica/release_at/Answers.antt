use Rattle.std.proofs.Common.{◌≡◌, ◌<◌, ◌+◌, ◌-◌, ◌∙◌, ℕ, List, length, sym, ap, subst, arith, map, set}
use Rattle.std.proofs.lemmas.List.{length-set}
use Rattle.state_forest.specs.declared.record.Record.{Record}
use Rattle.state_forest.specs.Forests.{AreOf, HomeRecords}
use Rattle.state_replica.specs.Replicas.{ReplicaState, spare_at, view_of}
use Rattle.theory_history.specs.Views.{View}
use Rattle.state_replica.proofs.Rooms.{kept_with, ordered_here, same_records, spare_new}
use Rattle.state_replica.proofs.replica.Replica.release_at.Goals as goal

within : (c : goal.After-self-1) → c.args.place < length c.self.inside.homes.items
within c =
    let homes : length c.self.inside.homes.items ≡ length c.args.self.now.homes = ap (λ (k : ReplicaState). length k.homes) c.self.view_is in
    omega (arith, c.requires, homes)

abbrev view_with : List ℕ → List ℕ → List (List Record) → View
view_with front purges records = record { front = front; purges = purges; records = records }

order : (c : goal.After-self-1) → AreOf c.release.new.self.home c.release.new.self.records
order c =
    subst (λ n. AreOf n c.release.new.self.records) (sym c.release.ensures.home)
    (subst (λ (rs : List Record). AreOf c.index_mut.result.now.home rs) (sym c.release.ensures.records)
    (ordered_here c.self.inside.homes.items c.args.place c.index_mut.result.now (within c) c.index_mut.ensures.value c.self.invariant.ordered))

pub invariant_of-self : goal.invariant_of-self
invariant_of-self c =
    kept_with c.self.inside.front c.self.inside.purges c.self.inside.homes.items c.self.inside.index c.args.place c.release.new.self c.index_mut.result.now (within c)
    (c.release.ensures.home ∙ ap (λ (h : HomeRecords). h.home) c.index_mut.ensures.value) (c.release.ensures.records ∙ ap (λ (h : HomeRecords). h.records) c.index_mut.ensures.value) (order c) c.self.invariant

pub returns-clause-view : goal.returns-clause-view
returns-clause-view c =
    let records : map (λ (h : HomeRecords). h.records) (set c.self.inside.homes.items c.args.place c.release.new.self) ≡ map (λ (h : HomeRecords). h.records) c.self.inside.homes.items =
    same_records c.self.inside.homes.items c.args.place c.release.new.self c.index_mut.result.now (c.release.ensures.records ∙ ap (λ (h : HomeRecords). h.records) c.index_mut.ensures.value) in
    ap (view_with c.self.inside.front c.self.inside.purges) records ∙ ap view_of c.self.view_is

pub returns-clause-homes : goal.returns-clause-homes
returns-clause-homes c = length-set c.self.inside.homes.items c.args.place c.release.new.self ∙ ap (λ (k : ReplicaState). length k.homes) c.self.view_is

pub returns-clause-room : goal.returns-clause-room
returns-clause-room c =
    let homes = c.self.inside.homes.items in
    let place = c.args.place in
    let new = c.release.new.self in
    let back : place + 1 - 1 ≡ place = omega arith in
    let room = subst (λ (i : ℕ). spare_at (set homes i new) (place + 1) ≡ new.spare) back (spare_new homes (place + 1) new (omega (arith, within c))) in
    omega (arith, room, c.release.ensures.spare)
