-- what the walks from the records of a home find is exactly what is due to compensate
use Rattle.std.proofs.Common.{◌≡◌, ◌≤◌, ◌&&◌, ◌+◌, ◌++◌, ℕ, zero, suc, List, [], ◌∷◌, refl, sym, ap, subst, ◌∙◌, Bool, true, false, cond, arith, Option, Some, None, filter_map, length, take}
use mathlib.Core.Bool.{not}
use Rattle.std.specs.List.{AllByRecursion, cons_option}
use Rattle.std.specs.Option.{option_map_or}
use Rattle.std.proofs.lemmas.List.{take_all, take_more}
use Rattle.std.proofs.lemmas.List.Elements.{filter_map-append}
use Rattle.state_facts.specs.declared.fact.Fact.{Fact}
use Rattle.state_facts.specs.Duties.{is_compensation_due, wants_cancel}
use Rattle.state_facts.specs.Sets.{is_held, IsNumbered}
use Rattle.state_forest.specs.declared.duties.Due.{Due}
use Rattle.state_forest.specs.declared.record.Place.{Place}
use Rattle.state_forest.specs.declared.record.Record.{Record}
use Rattle.state_forest.specs.Dues.{AreAll, IsDueAt, IsShare, is_topmost, is_topmost_before}
use Rattle.state_forest.specs.Forests.{AreOf}
use Rattle.state_forest.specs.RecordDues.{compensation_at, due_at, due_to_compensate, is_topmost_at}
use Rattle.state_forest.specs.Records.{record_of}
use Rattle.state_forest.specs.Said.{want_at}
use Rattle.state_forest.specs.Shape.{found_at}
use Rattle.state_forest.specs.Standing.{IsNested, IsSeated, IsWhole, Stands}
use Rattle.state_forest.specs.Walks.{last_of, pending_within}
use Rattle.state_forest.proofs.CompensationsByRecord.{AreSoFar, as_list, share_more, share_whole}
use Rattle.state_forest.proofs.GreatestByPath.{IsGreatest}
use Rattle.state_forest.proofs.Overdue.{at, find_at, number_passes}
use Rattle.state_forest.proofs.LastPending.{IsPendingUnder, path_under}
use Rattle.state_forest.proofs.SagaOrder.{decision_cancels, topmost_alone}
use Rattle.state_forest.proofs.RecordsSayTheSet.{want_said}
use Rattle.state_forest.proofs.DutiesOfAHome.{some_at}
use Rattle.state_forest.proofs.CompensationUnderAnLra.{found_number, none_pending, none_top, not_topmost, one_due, topmost_of_nested, walked_at}
use Rattle.state_forest.proofs.RecordsOfASet.{found_is, found_parent, found_root, held_if_found, held_parent}

-- the records name the same topmost LRAs as the set
topmost_said : (nodes home : ℕ) (S : List Fact) (records : List Record) (r : Record) → IsWhole S → IsNested S → Stands nodes home S records → found_at home records r.num ≡ Some r → is_topmost_at (found_at home records) r ≡ is_topmost S (at home r.num)
topmost_said nodes home S records r whole nest stands found = by (wants_cancel r.decision) r.parent refl refl
  where
    held : is_held S (at home r.num) ≡ true
    held = held_if_found nodes S records (at home r.num) r stands found

    kept : r ≡ record_of nodes S (at home r.num)
    kept = found_is nodes S records (at home r.num) r stands held found

    by : (b : Bool) (o : Option Place) → wants_cancel r.decision ≡ b → r.parent ≡ o → (b && not (option_map_or (λ (p : Place). wants_cancel (want_at (found_at home records) p.number)) o false)) ≡ is_topmost S (at home r.num)
    by false o e f = sym (not_topmost nodes S records (at home r.num) r whole stands found e)
    by true None e f = sym (topmost_alone S whole.nested (at home r.num) (found_root nodes S records (at home r.num) r stands held found f) ∙ sym (decision_cancels S (at home r.num)) ∙ ap (λ (y : Record). wants_cancel y.decision) (sym kept) ∙ e)
    by true (Some p) e f =
        let up = found_parent nodes S records (at home r.num) r p whole stands held found f in
        let above = held_parent S (at home r.num) (at home p.number) whole held up in
        sym (topmost_of_nested nodes S records (at home r.num) r p (want_at (found_at home records) p.number) whole stands found e f (want_said nodes S records (at home p.number) whole nest stands above))

share_said : (nodes home : ℕ) (S : List Fact) (records : List Record) (r : Record) → IsWhole S → IsSeated S → IsNested S → AllByRecursion IsNumbered S → Stands nodes home S records → found_at home records r.num ≡ Some r → IsShare home S r.num (compensation_at home (found_at home records) r)
share_said nodes home S records r whole seated nest numbered stands found = by (is_topmost_at (found_at home records) r) (last_of (pending_within 7 (found_at home records) r.num) 1 r.members) refl refl
  where
    said : is_topmost_at (found_at home records) r ≡ is_topmost S (at home r.num)
    said = topmost_said nodes home S records r whole nest stands found

    held : is_held S (at home r.num) ≡ true
    held = held_if_found nodes S records (at home r.num) r stands found

    walked : (o : Option Place) → last_of (pending_within 7 (found_at home records) r.num) 1 r.members ≡ o → IsGreatest (IsPendingUnder S (at home r.num)) (path_under S (at home r.num)) o
    walked o e = walked_at nodes S (record { home = home; records = records; spare = 0 }) r.num r r.members o whole seated nest stands held (found_is nodes S records (at home r.num) r stands held found) refl (sym e)

    by : (b : Bool) (o : Option Place) → is_topmost_at (found_at home records) r ≡ b → last_of (pending_within 7 (found_at home records) r.num) 1 r.members ≡ o → IsShare home S r.num (cond b (option_map_or (due_at home) o None) None)
    by false o e f = none_top S home r.num whole (sym said ∙ e)
    by true None e f = none_pending S home r.num whole (walked None f)
    by true (Some y) e f =
        let number = number_passes y.number (found_number S home r.num y whole numbered held (walked (Some y) f)) in
        subst (λ (b : Bool). IsShare home S r.num (cond b (Some (record { lra = at home y.number; member = y.slot })) None)) (sym number)
        (one_due S home r.num y (at home y.number) whole (sym said ∙ e) held (walked (Some y) f) refl)

listed : (o : Option Due) → cons_option o [] ≡ as_list o
listed None = refl
listed (Some d) = refl

so_far : (nodes home : ℕ) (S : List Fact) (records : List Record) → IsWhole S → IsSeated S → IsNested S → AllByRecursion IsNumbered S → AreOf home records → Stands nodes home S records → (i : ℕ) → i ≤ length records → AreSoFar home S (take i records) (filter_map (compensation_at home (found_at home records)) (take i records))
so_far nodes home S records whole seated nest numbered order stands zero less = record { all = λ x p. absurd p.1.1; only = λ x inside. absurd inside; order = tt }
so_far nodes home S records whole seated nest numbered order stands (suc i) less =
    let there = some_at records i (omega (arith, less)) in
    let r = there.0 in
    let h = compensation_at home (found_at home records) in
    let found = find_at home records i r order (omega (arith, less)) there.1 in
    let next : take (i + 1) records ≡ take i records ++ r ∷ [] = take_more records i r (omega (arith, less)) ∙ ap (λ (q : Record). take i records ++ q ∷ []) (sym there.1) in
    let added = ap (filter_map h) next ∙ filter_map-append h (take i records) (r ∷ []) ∙ ap (λ (ds : List Due). filter_map h (take i records) ++ ds) (listed (h r)) in
    let more : suc i ≡ i + 1 = omega arith in
    subst (λ (k : ℕ). AreSoFar home S (take k records) (filter_map h (take k records))) (sym more)
    (share_more home S records i r (filter_map h (take i records)) (filter_map h (take (i + 1) records)) (h r) order (omega (arith, less)) there.1
    (share_said nodes home S records r whole seated nest numbered stands found) added
    (so_far nodes home S records whole seated nest numbered order stands i (omega (arith, less))))

pub compensations_settled : (nodes home : ℕ) (S : List Fact) (records : List Record) → IsWhole S → IsSeated S → IsNested S → AllByRecursion IsNumbered S → AreOf home records → Stands nodes home S records → AreAll (IsDueAt home S is_compensation_due) (is_topmost_before S) (due_to_compensate home (found_at home records) records)
compensations_settled nodes home S records whole seated nest numbered order stands =
    share_whole nodes home S records (due_to_compensate home (found_at home records) records) whole stands
    (subst (λ (rs : List Record). AreSoFar home S rs (filter_map (compensation_at home (found_at home records)) rs)) (take_all (length records) records (omega arith))
    (so_far nodes home S records whole seated nest numbered order stands (length records) (omega arith)))
