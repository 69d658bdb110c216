-- records that each have their place
use Rattle.std.proofs.Common.{◌≡◌, ◌↔◌, ◌⊎◌, inl, inr, ◌<◌, ◌-◌, ◌≤◌, ◌&&◌, ℕ, zero, suc, List, refl, sym, ap, subst, ◌∙◌, Bool, true, false, cond, arith, Option, Some, None, Bor, is_none, is_some, length}
use mathlib.Core.Bool.{not}
use Rattle.std.specs.List.{AllByRecursion}
use Rattle.std.specs.Option.{option_copied, option_or}
use Rattle.state_ids.specs.Ids.{Id}
use Rattle.state_facts.specs.Lists.{In}
use Rattle.state_forest.specs.declared.record.Member.{Member}
use Rattle.state_forest.specs.declared.record.Member.TheVariants.{Nested, Participant, Left}
use Rattle.state_forest.specs.declared.record.Place.{Place}
use Rattle.state_forest.specs.declared.record.Record.{Record}
use Rattle.state_forest.specs.Forests.{AreOf, is_of}
use Rattle.state_forest.specs.RecordMerges.{changed_by, without}
use Rattle.state_forest.specs.Shape.{found_at, is_shallow, AreInShape, IsInPlaceAt, IsInPlace}
use Rattle.state_forest.proofs.Bools.{all_from, all_in, and_left, and_right}
use Rattle.state_forest.proofs.ChangedRecords.{found_after, found_kept, found_own, keep, stays}
use Rattle.state_forest.proofs.MembersAndStamps.{find_in}
use Rattle.state_forest.proofs.OnlyWhatChanges.{found_self}

-- an LRA that has no record is not shallow
pub shallow_none : (levels home : ℕ) (records : List Record) (num : ℕ) → None ≡ found_at home records num → is_shallow levels home records num ≡ false
shallow_none zero home records num e = refl
shallow_none (suc levels) home records num e = let none = sym e in rw none refl

-- a root is shallow
pub shallow_root : (levels home : ℕ) (records : List Record) (num : ℕ) (r : Record) → 0 < levels → Some r ≡ found_at home records num → r.parent ≡ None → is_shallow levels home records num ≡ true
shallow_root zero home records num r some e root = absurd (omega (arith, some))
shallow_root (suc levels) home records num r some e root = let found = sym e in rw (found, root) refl

-- a nested LRA is shallow if its parent is, for one level less
pub shallow_nested : (levels home : ℕ) (records : List Record) (num : ℕ) (r : Record) (p : Place) → 0 < levels → Some r ≡ found_at home records num → r.parent ≡ Some p → is_shallow levels home records num ≡ is_shallow (levels - 1) home records p.number
shallow_nested zero home records num r p some e above = absurd (omega (arith, some))
shallow_nested (suc levels) home records num r p some e above =
    let found = sym e in
    let less : suc levels - 1 ≡ levels = omega arith in
    rw (found, above, less) refl

-- if a record is at hand, whether its LRA is shallow depends on what is above it
pub shallow_of_root : (home : ℕ) (records : List Record) (r : Record) → found_at home records r.num ≡ Some r → r.parent ≡ None → true ≡ is_shallow 8 home records r.num
shallow_of_root home records r found root = sym (shallow_root 8 home records r.num r (omega arith) (sym found) root)

pub shallow_of_nested : (home : ℕ) (records : List Record) (r : Record) (p : Place) → found_at home records r.num ≡ Some r → r.parent ≡ Some p → is_shallow 7 home records p.number ≡ is_shallow 8 home records r.num
shallow_of_nested home records r p found above = sym (shallow_nested 8 home records r.num r p (omega arith) (sym found) above)

-- a record that is found after the changes is one of the changes, or a record that was there and
-- stays
changed_from : (test : Record → Bool) (r : Record) (o own : Option Record) → option_or o (keep test own) ≡ Some r → (o ≡ Some r) ⊎ ((is_none o ≡ true) × (own ≡ Some r) × (test r ≡ true))
changed_from test r (Some x) own e = inl e
changed_from test r None None e = absurd cc
changed_from test r None (Some x) e = let kept = by (test x) refl e in inr (refl, kept.0, kept.1)
  where
    by : (b : Bool) → test x ≡ b → cond b (Some x) None ≡ Some r → (Some x ≡ Some r) × (test r ≡ true)
    by true passes e = let same : x ≡ r = cc in (e, sym (ap test same) ∙ passes)
    by false passes e = absurd cc

-- no change has the record's number, and the changes don't remove it
abbrev left_by : (home : ℕ) (removed : List Id) (changed : List Record) → Record → Bool
left_by home removed changed r = is_none (found_at home changed r.num) && stays removed r

both_true : (a b : Bool) → a ≡ true → b ≡ true → (a && b) ≡ true
both_true true true e f = refl
both_true true false e f = absurd cc
both_true false b e f = absurd cc

none_there : (o : Option Record) → is_none o ≡ true → o ≡ None
none_there None e = refl
none_there (Some r) e = absurd cc

-- after the changes, each of them is found
found_change : (home there : ℕ) (removed : List Id) (changed own : List Record) (r : Record) → there ≡ home → AreOf there changed → AreOf home own → In r changed → found_at home (changed_by removed changed own) r.num ≡ Some r
found_change home there removed changed own r same h g m =
    sym (found_after home there removed changed own r.num same h g)
    ∙ ap (λ o. option_or o (found_at home (without removed own) r.num)) (found_self there changed r h m)

pub all_found : (home there : ℕ) (removed : List Id) (changed own : List Record) → there ≡ home → AreOf there changed → AreOf home own → AllByRecursion (λ r. found_at home (changed_by removed changed own) r.num ≡ Some r) changed
all_found home there removed changed own same h g =
    all_from (λ r. found_at home (changed_by removed changed own) r.num ≡ Some r) changed (λ r m. found_change home there removed changed own r same h g m)

-- and so is each record that they leave
pub found_left : (home there : ℕ) (removed : List Id) (changed own : List Record) (r : Record) → there ≡ home → AreOf there changed → AreOf home own → In r own → left_by there removed changed r ≡ true → found_at home (changed_by removed changed own) r.num ≡ Some r
found_left home there removed changed own r same h g m e =
    sym (found_after home there removed changed own r.num same h g)
    ∙ ap (λ o. option_or o (found_at home (without removed own) r.num)) (none_there (found_at there changed r.num) (and_left (is_none (found_at there changed r.num)) (stays removed r) e))
    ∙ found_kept home removed own r.num g
    ∙ ap (keep (stays removed)) (found_self home own r g m)
    ∙ ap (λ b. cond b (Some r) None) (and_right (is_none (found_at there changed r.num)) (stays removed r) e)

-- a record that the changes leave has its place, by two tests
pub unless_left : (X : Type 0) (placed left is : Bool) → (is ≡ true → ((placed ≡ true) ↔ X)) → placed ≡ false → left ≡ is → ((not left ≡ true) ↔ (is ≡ true → X))
unless_left X placed true true h missed e = (λ yes. absurd cc, λ fits. absurd (let placed = (h refl).1 (fits refl) in cc))
unless_left X placed false false h missed e = (λ yes left. absurd cc, λ fits. refl)
unless_left X placed true false h missed e = absurd cc
unless_left X placed false true h missed e = absurd cc

-- what was tested of each change and each record that is left
abbrev pub ChangesFit : (front : List ℕ) (home : ℕ) (removed : List Id) (changed own : List Record) → Type 0
ChangesFit front home removed changed own = AllByRecursion (λ r. IsInPlace front home (changed_by removed changed own) r.num r) changed

abbrev pub LeftFit : (front : List ℕ) (home there : ℕ) (removed : List Id) (changed own : List Record) → Type 0
LeftFit front home there removed changed own = AllByRecursion (λ r. left_by there removed changed r ≡ true → IsInPlace front home (changed_by removed changed own) r.num r) own

-- if each record that is left and each of the changes has its place, all have
all_fitted : (front : List ℕ) (home there : ℕ) (removed : List Id) (changed own : List Record) → there ≡ home → AreOf there changed → AreOf home own
    → LeftFit front home there removed changed own → ChangesFit front home removed changed own
    → (num : ℕ) → IsInPlaceAt front home (changed_by removed changed own) num
all_fitted front home there removed changed own same h g mine theirs num r e =
    let parted = ap (option_or (found_at there changed num)) (sym (found_kept home removed own num g)) ∙ found_after home there removed changed own num same h g ∙ e in
    by (changed_from (stays removed) r (found_at there changed num) (found_at home own num) parted)
  where
    by : (found_at there changed num ≡ Some r) ⊎ ((is_none (found_at there changed num) ≡ true) × (found_at home own num ≡ Some r) × (stays removed r ≡ true)) → IsInPlace front home (changed_by removed changed own) num r
    by (inl found) =
        let number = (found_own there num changed r found).1 in
        let inside = (find_in (is_of (record { home = there; num = num })) changed r found).0 in
        subst (λ n. IsInPlace front home (changed_by removed changed own) n r) number (all_in (λ x. IsInPlace front home (changed_by removed changed own) x.num x) changed theirs r inside)
    by (inr kept) =
        let number = (found_own home num own r kept.1).1 in
        let inside = (find_in (is_of (record { home = home; num = num })) own r kept.1).0 in
        let left = both_true (is_none (found_at there changed r.num)) (stays removed r) (ap (λ n. is_none (found_at there changed n)) number ∙ kept.0) kept.2 in
        subst (λ n. IsInPlace front home (changed_by removed changed own) n r) number (all_in (λ x. left_by there removed changed x ≡ true → IsInPlace front home (changed_by removed changed own) x.num x) own mine r inside left)

-- and conversely
pub each_change : (front : List ℕ) (home there : ℕ) (removed : List Id) (changed own : List Record) → there ≡ home → AreOf there changed → AreOf home own → AreInShape front home (changed_by removed changed own) → ChangesFit front home removed changed own
each_change front home there removed changed own same h g shape =
    all_from (λ r. IsInPlace front home (changed_by removed changed own) r.num r) changed (λ r m. shape.in_place r.num r (found_change home there removed changed own r same h g m))

pub each_left : (front : List ℕ) (home there : ℕ) (removed : List Id) (changed own : List Record) → there ≡ home → AreOf there changed → AreOf home own → AreInShape front home (changed_by removed changed own) → LeftFit front home there removed changed own
each_left front home there removed changed own same h g shape =
    all_from (λ r. left_by there removed changed r ≡ true → IsInPlace front home (changed_by removed changed own) r.num r) own (λ r m left. shape.in_place r.num r (found_left home there removed changed own r same h g m left))

-- the record of the LRA that is nested as this member is there
abbrev pub IsThere : (home : ℕ) → List Record → Member → Type 0
IsThere home records (Nested child) = is_some (found_at home records child) ≡ true
IsThere home records (Participant p) = Unit {0}
IsThere home records Left = Unit {0}

pub nested_there : (home : ℕ) (records : List Record) (members : List Member) → AllByRecursion (IsThere home records) members → (child : ℕ) → In (Nested child) members → is_some (found_at home records child) ≡ true
nested_there home records members h child m = all_in (IsThere home records) members h (Nested child) m

pub all_there : (home : ℕ) (records : List Record) (members : List Member) → ((child : ℕ) → In (Nested child) members → is_some (found_at home records child) ≡ true) → AllByRecursion (IsThere home records) members
all_there home records members h = all_from (IsThere home records) members by
  where
    by : (m : Member) → In m members → IsThere home records m
    by (Nested child) i = h child i
    by (Participant p) i = tt
    by Left i = tt

-- a copied reference is there exactly if the reference is
pub copied_some : {X : Type 0} (o : Option (Bor X)) → is_some (option_copied o) ≡ is_some o
copied_some None = refl
copied_some (Some r) = refl

-- at most 256 records that each have their place are in shape
pub shape_from : (front : List ℕ) (home there : ℕ) (removed : List Id) (changed own : List Record) → there ≡ home → AreOf there changed → AreOf home own
    → length (changed_by removed changed own) ≤ 256 → LeftFit front home there removed changed own → ChangesFit front home removed changed own
    → AreInShape front home (changed_by removed changed own)
shape_from front home there removed changed own same h g few mine theirs =
    record { few = few; in_place = all_fitted front home there removed changed own same h g mine theirs }
