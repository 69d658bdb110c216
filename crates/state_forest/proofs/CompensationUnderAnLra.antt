-- The compensations that are due under one LRA, found from its record.
use Rattle.std.proofs.Common.{◌≡◌, inl, inr, ◌<◌, ℕ, zero, suc, List, refl, sym, ap, subst, ◌∙◌, true, false, arith, Option, Some, None, find}
use mathlib.Core.Bool.{not}
use Rattle.std.specs.List.{AllByRecursion}
use Rattle.std.specs.Option.{option_map_or}
use Rattle.state_ids.specs.Ids.{Id, IsFactNumber, same_id}
use Rattle.state_ids.specs.declared.outcome.Verdict.{Verdict}
use Rattle.state_ids.specs.declared.outcome.Verdict.TheVariants.{Cancel}
use Rattle.state_facts.specs.declared.fact.Fact.{Fact}
use Rattle.state_facts.specs.Duties.{is_compensation_due, topmost_cancelled, wants_cancel}
use Rattle.state_facts.specs.Lists.{In}
use Rattle.state_facts.specs.Sets.{is_decided, is_held, is_under, parent_of, want, IsNumbered}
use Rattle.state_facts.proofs.Chains.{parent_lesser}
use Rattle.state_forest.specs.declared.duties.Due.{Due}
use Rattle.state_forest.specs.declared.record.Member.{Member}
use Rattle.state_forest.specs.declared.record.Place.{Place}
use Rattle.state_forest.specs.declared.record.Record.{Record}
use Rattle.state_forest.specs.Dues.{IsDueAt, IsDueUnder, IsShare, is_topmost, topmost_number}
use Rattle.state_forest.specs.Forests.{HomeRecords, is_of}
use Rattle.state_forest.specs.Records.{record_of}
use Rattle.state_forest.specs.Shape.{found_at}
use Rattle.state_forest.specs.Standing.{IsNested, IsSeated, IsWhole, Stands}
use Rattle.state_forest.specs.Walks.{last_of, pending_within}
use Rattle.state_forest.proofs.Bools.{or_cases}
use Rattle.state_forest.proofs.ShownByMembers.{held_child, some_depth}
use Rattle.state_forest.proofs.MembersAndStamps.{find_in}
use Rattle.state_forest.proofs.GreatestByPath.{IsGreatest}
use Rattle.state_forest.proofs.Overdue.{at, held_number}
use Rattle.state_forest.proofs.Paths.{under_home}
use Rattle.state_forest.proofs.LastPending.{IsPendingUnder, path_under, walked}
use Rattle.state_forest.proofs.SagaOrder.{decision_cancels, due_last, last_due, own_topmost, top_is, topmost_alone, topmost_below, topmost_is, topmost_own, want_cancels}
use Rattle.state_forest.proofs.NumberedMembers.{same_is}
use Rattle.state_forest.proofs.RecordsOfASet.{found_is, found_parent, held_if_found, held_parent, stands_at}
use Rattle.state_forest.proofs.UnderAnLra.{under_root, under_up}

-- an LRA that is under a held LRA is held
pub held_below : (S : List Fact) → IsWhole S → (a : Id) → is_held S a ≡ true → (n : ℕ) (d : Id) → d.num < n → is_under S a d ≡ true → is_held S d ≡ true
held_below S whole a held zero d e under = absurd (omega (arith, e))
held_below S whole a held (suc n) d e under = by (λ p less above. held_below S whole a held n p less above) (parent_of S d) refl
  where
    same : a ≡ d → is_held S d ≡ true
    same s = subst (λ (x : Id). is_held S x ≡ true) s held

    by : ((p : Id) → p.num < n → is_under S a p ≡ true → is_held S p ≡ true) → (o : Option Id) → parent_of S d ≡ o → is_held S d ≡ true
    by rest None up = same (under_root S whole.nested a d up under)
    by rest (Some p) up =
        let lesser = parent_lesser S d p whole.nested up in
        elim (or_cases (same_id a d) (is_under S a p) (sym (under_up S whole.nested a d p up) ∙ under)) [ inl here ↦ same (same_is a d here) | inr above ↦ held_child S p d whole up (rest p (omega (arith, e, lesser)) above) ]

-- and an LRA that has a held LRA under it is held
pub held_above : (S : List Fact) → IsWhole S → (a : Id) (n : ℕ) (d : Id) → d.num < n → is_under S a d ≡ true → is_held S d ≡ true → is_held S a ≡ true
held_above S whole a zero d e under held = absurd (omega (arith, e))
held_above S whole a (suc n) d e under held = by (λ p less above kept. held_above S whole a n p less above kept) (parent_of S d) refl
  where
    same : a ≡ d → is_held S a ≡ true
    same s = subst (λ (x : Id). is_held S x ≡ true) (sym s) held

    by : ((p : Id) → p.num < n → is_under S a p ≡ true → is_held S p ≡ true → is_held S a ≡ true) → (o : Option Id) → parent_of S d ≡ o → is_held S a ≡ true
    by rest None up = same (under_root S whole.nested a d up under)
    by rest (Some p) up =
        let lesser = parent_lesser S d p whole.nested up in
        elim (or_cases (same_id a d) (is_under S a p) (sym (under_up S whole.nested a d p up) ∙ under)) [ inl here ↦ same (same_is a d here) | inr above ↦ rest p (omega (arith, e, lesser)) above (held_parent S d p whole held up) ]

-- the topmost cancelled LRA of a due participant is of the home and has the number that the duty is
-- under
pub top_of : (S : List Fact) (home num : ℕ) (d : Due) → IsWhole S → IsDueUnder home S num d → topmost_cancelled S d.lra ≡ Some (at home num)
top_of S home num d whole due = by (topmost_cancelled S d.lra) refl
  where
    by : (o : Option Id) → topmost_cancelled S d.lra ≡ o → topmost_cancelled S d.lra ≡ Some (at home num)
    by None none = absurd (let owed = due.due.owed in let wrong : is_compensation_due S d.lra d.member ≡ false = rw none refl in cc)
    by (Some a) top =
        let tops = top_is S whole.nested (suc d.lra.num) d.lra a (omega arith) top in
        let own : a.home ≡ home = sym (under_home S whole.nested a (suc d.lra.num) d.lra (omega arith) tops.under) ∙ due.due.own in
        let number : a.num ≡ num = sym (ap (λ o. option_map_or (λ (x : Id). x.num) o 0) top) ∙ due.topmost in
        top ∙ ap (λ (h : ℕ). Some (at h a.num)) own ∙ ap (λ (n : ℕ). Some (at home n)) number

-- what the code finds from the record of an LRA
pub walked_at : (nodes : ℕ) (S : List Fact) (h : HomeRecords) (num : ℕ) (r : Record) (members : List Member) (o : Option Place) → IsWhole S → IsSeated S → IsNested S → Stands nodes h.home S h.records → is_held S (at h.home num) ≡ true → r ≡ record_of nodes S (at h.home num) → members ≡ r.members → o ≡ last_of (pending_within 7 (found_at h.home h.records) num) 1 members → IsGreatest (IsPendingUnder S (at h.home num)) (path_under S (at h.home num)) o
walked_at nodes S h num r members o whole seated nest stands held kept same found =
    let x = at h.home num in
    subst (IsGreatest (IsPendingUnder S x) (path_under S x)) (sym (found ∙ ap (last_of (pending_within 7 (found_at h.home h.records) num) 1) (same ∙ ap (λ (y : Record). y.members) kept)))
    (walked nodes S h whole seated nest stands 7 x refl held (omega (arith, some_depth S x whole)))

pub none_top : (S : List Fact) (home num : ℕ) → IsWhole S → is_topmost S (at home num) ≡ false → IsShare home S num None
none_top S home num whole lower d due =
    let top = top_of S home num d whole due in
    let yes = own_topmost S (at home num) (top_is S whole.nested (suc d.lra.num) d.lra (at home num) (omega arith) top).own in
    absurd (let wrong : true ≡ false = sym yes ∙ lower in cc)

pub none_pending : (S : List Fact) (home num : ℕ) → IsWhole S → IsGreatest (IsPendingUnder S (at home num)) (path_under S (at home num)) None → IsShare home S num None
none_pending S home num whole none d due =
    absurd (let found = due_last S whole.nested (at home num) d.lra d.member None (top_of S home num d whole due) due.due.owed none in cc)

due_is : (a b : Due) → a.lra.home ≡ b.lra.home → a.lra.num ≡ b.lra.num → a.member ≡ b.member → a ≡ b
due_is a b h n m =
    ap (λ (k : ℕ). record { lra = at k a.lra.num; member = a.member }) h
    ∙ ap (λ (k : ℕ). record { lra = at b.lra.home k; member = a.member }) n
    ∙ ap (λ (k : ℕ). record { lra = b.lra; member = k }) m

pub one_due : (S : List Fact) (home num : ℕ) (y : Place) (lra : Id) → IsWhole S → is_topmost S (at home num) ≡ true → is_held S (at home num) ≡ true → IsGreatest (IsPendingUnder S (at home num)) (path_under S (at home num)) (Some y) → lra ≡ at home y.number → IsShare home S num (Some (record { lra = lra; member = y.slot }))
one_due S home num y lra whole topmost held last is = (
  record {
    due = record {
      own = ap (λ (x : Id). x.home) is;
      held = ap (is_held S) is ∙ held_below S whole (at home num) held (suc y.number) (at home y.number) (omega arith) last.0.under;
      owed = ap (λ (x : Id). is_compensation_due S x y.slot) is ∙ last_due S whole.nested (at home num) y top last;
    };
    topmost = ap (λ (x : Id). topmost_number S x) is ∙ ap (λ o. option_map_or (λ (x : Id). x.num) o 0) (topmost_below S whole.nested (at home num) top (suc y.number) (at home y.number) (omega arith) last.0.under);
  },
  λ d due.
      let found = due_last S whole.nested (at home num) d.lra d.member (Some y) (top_of S home num d whole due) due.due.owed last in
      let same : y ≡ record { number = d.lra.num; slot = d.member } = cc in
      due_is d (record { lra = lra; member = y.slot }) (due.due.own ∙ sym (ap (λ (x : Id). x.home) is)) (sym (ap (λ (z : Place). z.number) same) ∙ sym (ap (λ (x : Id). x.num) is)) (sym (ap (λ (z : Place). z.slot) same)),
)
  where
    top : topmost_cancelled S (at home num) ≡ Some (at home num)
    top = topmost_own S (at home num) topmost

-- the topmost cancelled LRA of a due participant has a record
pub top_record : (nodes home : ℕ) (S : List Fact) (records : List Record) (d : Due) → IsWhole S → Stands nodes home S records → IsDueAt home S is_compensation_due d → (r : Record) × In r records × (topmost_number S d.lra ≡ r.num)
top_record nodes home S records d whole stands due =
    let under : IsDueUnder home S (topmost_number S d.lra) d = record { due = due; topmost = refl } in
    let a = at home (topmost_number S d.lra) in
    let top = top_of S home (topmost_number S d.lra) d whole under in
    let tops = top_is S whole.nested (suc d.lra.num) d.lra a (omega arith) top in
    let held = held_above S whole a (suc d.lra.num) d.lra (omega arith) tops.under due.held in
    let found = stands_at nodes home S records a stands refl held in
    let inside = find_in (is_of a) records (record_of nodes S a) found in
    (record_of nodes S a, inside.0, refl)

-- an LRA whose record is not cancelled is not the topmost cancelled one
pub not_topmost : (nodes : ℕ) (S : List Fact) (records : List Record) (x : Id) (r : Record) → IsWhole S → Stands nodes x.home S records → find (is_of x) records ≡ Some r → wants_cancel r.decision ≡ false → is_topmost S x ≡ false
not_topmost nodes S records x r whole stands found none = by (parent_of S x) refl
  where
    own : is_decided S Cancel x ≡ false
    own =
        let held = held_if_found nodes S records x r stands found in
        let kept = found_is nodes S records x r stands held found in
        sym (decision_cancels S x) ∙ ap (λ (y : Record). wants_cancel y.decision) (sym kept) ∙ none

    by : (o : Option Id) → parent_of S x ≡ o → is_topmost S x ≡ false
    by None up = topmost_alone S whole.nested x up ∙ own
    by (Some p) up = topmost_is S whole.nested x p up ∙ rw own refl

-- an LRA that is nested and cancelled is topmost unless its parent wants Cancel
pub topmost_of_nested : (nodes : ℕ) (S : List Fact) (records : List Record) (x : Id) (r : Record) (p : Place) (wanted : Option Verdict) → IsWhole S → Stands nodes x.home S records → find (is_of x) records ≡ Some r → wants_cancel r.decision ≡ true → r.parent ≡ Some p → wanted ≡ want S (at x.home p.number) → is_topmost S x ≡ not (wants_cancel wanted)
topmost_of_nested nodes S records x r p wanted whole stands found cancelled place wants =
    let held = held_if_found nodes S records x r stands found in
    let kept = found_is nodes S records x r stands held found in
    let own : is_decided S Cancel x ≡ true = sym (decision_cancels S x) ∙ ap (λ (y : Record). wants_cancel y.decision) (sym kept) ∙ cancelled in
    topmost_is S whole.nested x (at x.home p.number) (found_parent nodes S records x r p whole stands held found place)
    ∙ rw own (ap not (sym (want_cancels S (at x.home p.number)) ∙ ap wants_cancel (sym wants)))

-- the LRA of a participant that is found has a number that a fact can have
pub found_number : (S : List Fact) (home num : ℕ) (y : Place) → IsWhole S → AllByRecursion IsNumbered S → is_held S (at home num) ≡ true → IsGreatest (IsPendingUnder S (at home num)) (path_under S (at home num)) (Some y) → IsFactNumber y.number
found_number S home num y whole numbered held last =
    held_number S (at home y.number) numbered (held_below S whole (at home num) held (suc y.number) (at home y.number) (omega arith) last.0.under)
