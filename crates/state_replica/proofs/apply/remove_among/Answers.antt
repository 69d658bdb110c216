use Rattle.std.proofs.Common.{◌≡◌, ◌≤◌, ◌<◌, ◌-◌, ◌+◌, ◌==◌, ◌∙◌, ℕ, List, length, refl, sym, ap, arith, get_or, cond, set, subst, Bool, true, false, filter}
use mathlib.Core.Bool.{not}
use Rattle.std.proofs.lemmas.List.{length-map}
use Rattle.std.specs.Option.{option_map}
use Rattle.state_forest.specs.declared.record.Record.{Record}
use Rattle.state_forest.specs.Forests.{AreOf, HomeRecords, is_of}
use Rattle.state_forest.specs.Shape.{found_at}
use Rattle.state_forest.proofs.Removals.{filter_are_of}
use Rattle.state_replica.specs.Replicas.{records_in, stamps_in}
use Rattle.theory_history.specs.Views.{records_at}
use Rattle.state_replica.proofs.Indexed.{remove_stamps}
use Rattle.state_replica.proofs.Rooms.{here_same, home_numbered, homes_with, ordered_here, ordered_with, records_with, records_of, spare_with}
use Rattle.state_replica.proofs.apply.remove_among.Goals as goal

place_is : (c : goal.After-homes-1) → c.from-place.result - 1 ≡ c.args.id.home - 1
place_is c = ap (λ (n : ℕ). n - 1) (c.from-place.ensures ∙ c.number.ensures.value ∙ c.home.ensures.value)

some : (c : goal.After-homes-1) → 1 ≤ c.args.id.home
some c = omega (arith, c.number.ensures.range, c.number.ensures.value, c.home.ensures.value)

within : (c : goal.After-homes-1) → c.args.id.home - 1 < length c.args.homes.now.items
within c = omega (arith, place_is c, c.if-place-len.false, c.len.ensures, c.args.homes.now.ok)

is_home : (c : goal.After-homes-1) → c.index_mut.result.now ≡ get_or c.args.homes.now.items (c.args.id.home - 1) c.index_mut.result.now
is_home c = c.index_mut.ensures.value ∙ ap (λ (i : ℕ). get_or c.args.homes.now.items i c.index_mut.result.now) (place_is c)

-- the records of the home before
before : (c : goal.After-homes-1) → c.index_mut.result.now.records ≡ records_at (records_in c.args.homes.now.items) c.args.id.home
before c = ap (λ (h : HomeRecords). h.records) (is_home c) ∙ sym (records_of c.args.homes.now.items (c.args.id.home - 1) c.index_mut.result.now (within c))

at_home : (c : goal.After-homes-1) → c.args.id.home ≡ c.index_mut.result.now.home
at_home c = omega (arith, some c, ap (λ (h : HomeRecords). h.home) (is_home c), home_numbered 1 c.args.homes.now.items (c.args.id.home - 1) c.index_mut.result.now (within c) c.requires.numbered)

order : (c : goal.After-homes-1) → AreOf c.index_mut.result.now.home c.index_mut.result.now.records
order c = ordered_here c.args.homes.now.items (c.args.id.home - 1) c.index_mut.result.now (within c) (is_home c) c.requires.ordered

pub returns-clause-numbered : goal.returns-clause-numbered
returns-clause-numbered c =
    let at = c in
    rw (place_is at) (homes_with 1 c.args.homes.now.items (c.args.id.home - 1) c.remove.new.self c.index_mut.result.now (within at) (c.remove.ensures.home ∙ ap (λ (h : HomeRecords). h.home) (is_home at)) c.requires.numbered)

pub returns-clause-ordered : goal.returns-clause-ordered
returns-clause-ordered c =
    let at = c in
    let home = c.index_mut.result.now in
    let kept : AreOf c.remove.new.self.home c.remove.new.self.records =
    subst (λ (n : ℕ). AreOf n c.remove.new.self.records) (sym c.remove.ensures.home)
    (subst (λ (rs : List Record). AreOf home.home rs) (sym c.remove.ensures.records) (filter_are_of (λ (r : Record). not (is_of c.args.id r)) home.home home.records (order at))) in
    rw (place_is at) (ordered_with c.args.homes.now.items (c.args.id.home - 1) c.remove.new.self kept c.requires.ordered)

pub returns-clause-records : goal.returns-clause-records
returns-clause-records c =
    let at = c in
    rw (place_is at)
    (records_with c.args.homes.now.items (c.args.id.home - 1) c.remove.new.self
    ∙ ap (λ (rs : List Record). set (records_in c.args.homes.now.items) (c.args.id.home - 1) rs) (c.remove.ensures.records ∙ ap (filter (λ (r : Record). not (is_of c.args.id r))) (before at)))

pub returns-clause-room : goal.returns-clause-room
returns-clause-room c home one =
    let at = c in
    let room = spare_with c.args.homes.now.items (c.args.id.home - 1) c.remove.new.self c.index_mut.result.now 0 (within at)
    (omega (arith, c.remove.ensures.room, ap (λ (h : HomeRecords). h.spare) (is_home at))) home one in
    rw (place_is at) (by (c.args.id.home - 1 + 1 == home) room)
  where
    by : {a b : ℕ} (t : Bool) → a ≤ b + cond t 0 0 → a ≤ b
    by true e = omega (arith, e)
    by false e = omega (arith, e)

pub returns-clause-was : goal.returns-clause-was
returns-clause-was c =
    let at = c in
    let read : c.index.result.now ≡ get_or c.args.homes.now.items (c.args.id.home - 1) c.index.result.now = c.index.ensures ∙ ap (λ (i : ℕ). get_or c.args.homes.now.items i c.index.result.now) (place_is at) in
    let same : c.index.result.now ≡ c.index_mut.result.now = here_same c.args.homes.now.items (c.args.id.home - 1) c.index.result.now c.index_mut.result.now (within at) read (is_home at) in
    c.stamps_at-was.ensures
    ∙ ap (λ (n : ℕ). option_map (λ (r : Record). r.stamps) (found_at c.index.result.now.home c.index.result.now.records n)) c.num.ensures.value
    ∙ ap (λ (h : HomeRecords). option_map (λ (r : Record). r.stamps) (found_at h.home h.records c.args.id.num)) same
    ∙ ap (λ (n : ℕ). option_map (λ (r : Record). r.stamps) (found_at n c.index_mut.result.now.records c.args.id.num)) (sym (at_home at))
    ∙ ap (λ (rs : List Record). option_map (λ (r : Record). r.stamps) (found_at c.args.id.home rs c.args.id.num)) (before at)

pub returns-clause-indexed : goal.returns-clause-indexed
returns-clause-indexed c l =
    let at = c in
    let rs = records_in c.args.homes.now.items in
    let size : c.args.id.home - 1 < length rs = omega (arith, within at, length-map c.args.homes.now.items (λ (h : HomeRecords). h.records)) in
    remove_stamps rs (c.args.id.home - 1) c.index_mut.result.now.records c.args.id c.index_mut.result.now.home (some at) refl size (sym (before at)) (order at) l
    ∙ ap (λ (qs : List Record). stamps_in (set rs (c.args.id.home - 1) qs) l) (sym c.remove.ensures.records)
    ∙ ap (λ (xs : List (List Record)). stamps_in xs l) (sym (records_with c.args.homes.now.items (c.args.id.home - 1) c.remove.new.self))
    ∙ ap (λ (i : ℕ). stamps_in (records_in (set c.args.homes.now.items i c.remove.new.self)) l) (sym (place_is at))
