use Rattle.std.proofs.Common.{◌≡◌, ◌≤◌, ◌<◌, ◌+◌, ◌-◌, ◌==◌, ◌∙◌, ℕ, Bool, true, false, List, cond, refl, length, sym, ap, subst, arith, get_or, map, set}
use Rattle.state_forest.specs.declared.record.Record.{Record}
use Rattle.state_forest.specs.Forests.{AreOf, HomeRecords}
use Rattle.state_replica.specs.Replicas.{ReplicaState, spare_at, view_of}
use Rattle.theory_history.specs.Views.{View}
use Rattle.state_replica.proofs.Rooms.{kept_with, ordered_here, same_records, spare_new, spare_with}
use Rattle.state_replica.proofs.replica.Replica.make_room.Goals as goal

place_is : (c : goal.After-self-1) → c.from-place.result - 1 ≡ c.args.home - 1
place_is c = ap (λ (n : ℕ). n - 1) (c.from-place.ensures ∙ c.number.ensures.value)

within : (c : goal.After-self-1) → c.args.home - 1 < length c.self.inside.homes.items
within c =
    let fronts : length c.self.inside.front ≡ length c.args.self.now.front = ap (λ (k : ReplicaState). length k.front) c.self.view_is in
    let some : 1 ≤ c.args.home = omega (arith, c.number.ensures.range, c.number.ensures.value) in
    omega (arith, c.requires, fronts, some, c.self.invariant.homes)

is_home : (c : goal.After-self-1) → c.index_mut.result.now ≡ get_or c.self.inside.homes.items (c.args.home - 1) c.index_mut.result.now
is_home c = c.index_mut.ensures.value ∙ ap (λ (i : ℕ). get_or c.self.inside.homes.items i c.index_mut.result.now) (place_is c)

abbrev view_with : List ℕ → List ℕ → List (List Record) → View
view_with front purges records = record { front = front; purges = purges; records = records }

order : (c : goal.After-self-1) → AreOf c.reserve.new.self.home c.reserve.new.self.records
order c =
    subst (λ (n : ℕ). AreOf n c.reserve.new.self.records) (sym c.reserve.ensures.home)
    (subst (λ (rs : List Record). AreOf c.index_mut.result.now.home rs) (sym c.reserve.ensures.records)
    (ordered_here c.self.inside.homes.items (c.args.home - 1) c.index_mut.result.now (within c) (is_home c) c.self.invariant.ordered))

pub invariant_of-self : goal.invariant_of-self
invariant_of-self c =
    rw (place_is c)
    (kept_with c.self.inside.front c.self.inside.purges c.self.inside.homes.items c.self.inside.index (c.args.home - 1) c.reserve.new.self c.index_mut.result.now (within c)
    (c.reserve.ensures.home ∙ ap (λ (h : HomeRecords). h.home) (is_home c)) (c.reserve.ensures.records ∙ ap (λ (h : HomeRecords). h.records) (is_home c)) (order c) c.self.invariant)

pub returns-clause-view : goal.returns-clause-view
returns-clause-view c =
    let records : map (λ (h : HomeRecords). h.records) (set c.self.inside.homes.items (c.from-place.result - 1) c.reserve.new.self) ≡ map (λ (h : HomeRecords). h.records) c.self.inside.homes.items =
    rw (place_is c) (same_records c.self.inside.homes.items (c.args.home - 1) c.reserve.new.self c.index_mut.result.now (c.reserve.ensures.records ∙ ap (λ (h : HomeRecords). h.records) (is_home c))) in
    ap (view_with c.self.inside.front c.self.inside.purges) records ∙ ap view_of c.self.view_is

pub returns-clause-ok : goal.returns-clause-ok
returns-clause-ok c =
    let room = spare_new c.self.inside.homes.items c.args.home c.reserve.new.self (within c) in
    rw (place_is c, room) c.reserve.ensures.ok

pub returns-clause-stays : goal.returns-clause-stays
returns-clause-stays c = record { homes = homes; index = omega (arith, ap (λ (k : ReplicaState). k.index.spare) c.self.view_is) }
  where
    none : (b : Bool) → cond {A = ℕ} b 0 0 ≡ 0
    none true = refl
    none false = refl

    homes : (home : ℕ) → 1 ≤ home → spare_at c.args.self.now.homes home ≤ spare_at (set c.self.inside.homes.items (c.from-place.result - 1) c.reserve.new.self) home
    homes home some =
        let homes : spare_at c.self.inside.homes.items home ≡ spare_at c.args.self.now.homes home = ap (λ (k : ReplicaState). spare_at k.homes home) c.self.view_is in
        let room = spare_with c.self.inside.homes.items (c.args.home - 1) c.reserve.new.self c.index_mut.result.now 0 (within c)
        (omega (arith, c.reserve.ensures.kept, ap (λ (h : HomeRecords). h.spare) (is_home c))) home some in
        rw (place_is c) (omega (arith, homes, room, none ((c.args.home - 1 + 1) == home)))
