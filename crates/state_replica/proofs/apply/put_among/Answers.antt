use Rattle.std.proofs.Common.{◌≡◌, ◌≤◌, ◌<◌, ◌-◌, ◌+◌, ◌==◌, ◌∙◌, ℕ, List, length, refl, sym, ap, arith, get_or, cond, set, subst}
use Rattle.std.proofs.lemmas.List.{length-map}
use Rattle.std.specs.Option.{option_map}
use Rattle.state_forest.specs.declared.record.Record.{Record}
use Rattle.state_forest.specs.Forests.{AreOf, HomeRecords}
use Rattle.state_forest.specs.Places.{put_record}
use Rattle.state_forest.specs.Shape.{found_at}
use Rattle.state_forest.proofs.Puts.{put_are_of}
use Rattle.state_replica.specs.Replicas.{records_in, spare_at, stamps_in}
use Rattle.theory_history.specs.Views.{records_at}
use Rattle.state_replica.proofs.Indexed.{put_stamps}
use Rattle.state_replica.proofs.Rooms.{home_numbered, ordered_here, ordered_with, records_with, records_of, spare_is, spare_with}
use Rattle.state_replica.proofs.apply.put_among.Goals as goal

place_is : (c : goal.After-index_mut) → c.from-place.result - 1 ≡ c.args.added.home - 1
place_is c = ap (λ (n : ℕ). n - 1) (c.from-place.ensures ∙ c.number.ensures.value)

some : (c : goal.After-index_mut) → 1 ≤ c.args.added.home
some c = omega (arith, c.number.ensures.range, c.number.ensures.value)

within : (c : goal.After-index_mut) → c.args.added.home - 1 < length c.args.homes.now.items
within c = omega (arith, c.requires.home, some c)

is_home : (c : goal.After-index_mut) → c.index_mut.result.now ≡ get_or c.args.homes.now.items (c.args.added.home - 1) c.index_mut.result.now
is_home c = c.index_mut.ensures.value ∙ ap (λ (i : ℕ). get_or c.args.homes.now.items i c.index_mut.result.now) (place_is c)

-- the records of the home before
before : (c : goal.After-index_mut) → c.index_mut.result.now.records ≡ records_at (records_in c.args.homes.now.items) c.args.added.home
before c = ap (λ (h : HomeRecords). h.records) (is_home c) ∙ sym (records_of c.args.homes.now.items (c.args.added.home - 1) c.index_mut.result.now (within c))

at_home : (c : goal.After-index_mut) → c.args.added.home ≡ c.index_mut.result.now.home
at_home c = omega (arith, some c, ap (λ (h : HomeRecords). h.home) (is_home c), home_numbered 1 c.args.homes.now.items (c.args.added.home - 1) c.index_mut.result.now (within c) c.requires.numbered)

order : (c : goal.After-index_mut) → AreOf c.index_mut.result.now.home c.index_mut.result.now.records
order c = ordered_here c.args.homes.now.items (c.args.added.home - 1) c.index_mut.result.now (within c) (is_home c) c.requires.ordered

pub replace-requires-clause-home : goal.replace-requires-clause-home
replace-requires-clause-home c = at_home c

pub replace-requires-clause-room : goal.replace-requires-clause-room
replace-requires-clause-room c none =
    omega (arith, c.requires.room (some c), spare_is c.args.homes.now.items c.args.added.home c.index_mut.result.now (within c), ap (λ (h : HomeRecords). h.spare) (is_home c))

pub returns-clause-ordered : goal.returns-clause-ordered
returns-clause-ordered c =
    let at = c.before.before.before in
    let home = c.index_mut.result.now in
    let kept : AreOf c.replace.new.self.home c.replace.new.self.records =
    subst (λ (n : ℕ). AreOf n c.replace.new.self.records) (sym c.replace.ensures.home)
    (subst (λ (rs : List Record). AreOf home.home rs) (sym c.replace.ensures.records) (put_are_of home.home c.args.added home.records (at_home at) (order at))) in
    rw (place_is at) (ordered_with c.args.homes.now.items (c.args.added.home - 1) c.replace.new.self kept c.requires.ordered)

pub returns-clause-records : goal.returns-clause-records
returns-clause-records c =
    let at = c.before.before.before in
    rw (place_is at)
    (records_with c.args.homes.now.items (c.args.added.home - 1) c.replace.new.self
    ∙ ap (λ (rs : List Record). set (records_in c.args.homes.now.items) (c.args.added.home - 1) rs) (c.replace.ensures.records ∙ ap (put_record c.args.added) (before at)))

pub returns-clause-room : goal.returns-clause-room
returns-clause-room c home one =
    let at = c.before.before.before in
    let number : c.args.added.home - 1 + 1 ≡ c.args.added.home = omega (arith, some at) in
    let room = spare_with c.args.homes.now.items (c.args.added.home - 1) c.replace.new.self c.index_mut.result.now 1 (within at)
    (omega (arith, c.replace.ensures.room, ap (λ (h : HomeRecords). h.spare) (is_home at))) home one in
    rw (place_is at) (subst (λ (n : ℕ). spare_at c.args.homes.now.items home ≤ spare_at (set c.args.homes.now.items (c.args.added.home - 1) c.replace.new.self) home + cond (n == home) 1 0) number room)

pub returns-clause-was : goal.returns-clause-was
returns-clause-was c =
    let at = c.before.before.before in
    c.stamps_of.ensures
    ∙ ap (option_map (λ (r : Record). r.stamps)) c.replace.ensures.was
    ∙ ap (λ (rs : List Record). option_map (λ (r : Record). r.stamps) (found_at c.args.added.home rs c.args.added.num)) (before at)

pub returns-clause-indexed : goal.returns-clause-indexed
returns-clause-indexed c l =
    let at = c.before.before.before in
    let rs = records_in c.args.homes.now.items in
    let size : c.args.added.home - 1 < length rs = omega (arith, within at, length-map c.args.homes.now.items (λ (h : HomeRecords). h.records)) in
    let own : AreOf c.args.added.home c.index_mut.result.now.records = subst (λ (n : ℕ). AreOf n c.index_mut.result.now.records) (sym (at_home at)) (order at) in
    put_stamps rs (c.args.added.home - 1) c.index_mut.result.now.records c.args.added (some at) refl size (sym (before at)) own l
    ∙ ap (λ (qs : List Record). stamps_in (set rs (c.args.added.home - 1) qs) l) (sym c.replace.ensures.records)
    ∙ ap (λ (xs : List (List Record)). stamps_in xs l) (sym (records_with c.args.homes.now.items (c.args.added.home - 1) c.replace.new.self))
    ∙ ap (λ (i : ℕ). stamps_in (records_in (set c.args.homes.now.items i c.replace.new.self)) l) (sym (place_is at))
