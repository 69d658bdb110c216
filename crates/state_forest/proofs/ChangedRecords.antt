-- what is found among records after they are changed
use Rattle.std.proofs.Common.{◌≡◌, ◌≤◌, ◌<◌, ℕ, List, [], ◌∷◌, refl, sym, ap, subst, ◌∙◌, Bool, true, false, cond, arith, Option, Some, None, find, filter}
use mathlib.Core.Bool.{not}
use Rattle.std.specs.List.{list_any, AllByRecursion}
use Rattle.std.specs.Option.{option_or}
use Rattle.std.proofs.lemmas.Bool.Decides.{nat_tests}
use Rattle.state_ids.specs.Ids.{Id}
use Rattle.state_forest.specs.declared.record.Record.{Record}
use Rattle.state_forest.specs.Forests.{IsAscending, AreOf, is_of}
use Rattle.state_forest.specs.Places.{put_record}
use Rattle.state_forest.specs.RecordMerges.{changed_by, put_all, without}
use Rattle.state_forest.specs.Shape.{found_at}
use Rattle.state_forest.proofs.MembersAndStamps.{find_in}
use Rattle.state_forest.proofs.Places.{beyond_all, none_of}
use Rattle.state_forest.proofs.Puts.{put_are_of, put_find}
use Rattle.state_forest.proofs.Removals.{filter_are_of}

-- a record that is found by home and number has that home and number
pub found_own : (home num : ℕ) (rs : List Record) (r : Record) → found_at home rs num ≡ Some r → (r.home ≡ home) × (r.num ≡ num)
found_own home num rs r e =
    let l : Id = record { home = home; num = num } in
    let own = (find_in (is_of l) rs r e).1 in
    (grind (arith, nat_tests, own), grind (arith, nat_tests, own))

-- a found record, if it passes the test
abbrev pub keep : (Record → Bool) → Option Record → Option Record
keep test None = None
keep test (Some r) = cond (test r) (Some r) None

-- the record is of none of the removed LRAs
abbrev pub stays : List Id → Record → Bool
stays removed r = not (list_any (λ l. is_of l r) removed)

-- no record after the one of l is of l
pub none_after : (l : Id) (r : Record) (rs : List Record) → AllByRecursion (λ (x : Record). r.num < x.num) rs → is_of l r ≡ true → find (is_of l) rs ≡ None
none_after l r rs h e =
    let same : l.num ≤ r.num = grind (arith, nat_tests, e) in
    none_of l rs (beyond_all l.num r.num rs same h)

none_left : (test : Record → Bool) (l : Id) (rs : List Record) → find (is_of l) rs ≡ None → find (is_of l) (filter test rs) ≡ None
none_left test l [] e = refl
none_left test l (r ∷ rs) e = by (test r) (is_of l r) refl e (none_left test l rs)
  where
    by : (b t : Bool) → is_of l r ≡ t → cond t (Some r) (find (is_of l) rs) ≡ None → (find (is_of l) rs ≡ None → find (is_of l) (filter test rs) ≡ None) → find (is_of l) (cond b (r ∷ filter test rs) (filter test rs)) ≡ None
    by b true at e rest = absurd cc
    by true false at e rest = rw at (rest e)
    by false false at e rest = rest e

-- among the records that pass a test, the lookup finds what it found among all, if that passes
pub find_filter : (test : Record → Bool) (l : Id) (rs : List Record) → IsAscending rs → find (is_of l) (filter test rs) ≡ keep test (find (is_of l) rs)
find_filter test l [] h = refl
find_filter test l (r ∷ rs) h = by (test r) refl (is_of l r) refl (find_filter test l rs h.1) (λ e. none_left test l rs (none_after l r rs h.0 e))
  where
    by : (b : Bool) → test r ≡ b → (t : Bool) → is_of l r ≡ t → find (is_of l) (filter test rs) ≡ keep test (find (is_of l) rs) → (is_of l r ≡ true → find (is_of l) (filter test rs) ≡ None) → find (is_of l) (cond b (r ∷ filter test rs) (filter test rs)) ≡ keep test (cond t (Some r) (find (is_of l) rs))
    by true passes true at rest none = rw (at, passes) refl
    by true passes false at rest none = rw at rest
    by false passes true at rest none = none at ∙ (rw passes refl)
    by false passes false at rest none = rest

pub put_all_are_of : (home : ℕ) (changed own : List Record) → AllByRecursion (λ r. r.home ≡ home) changed → AreOf home own → AreOf home (put_all changed own)
put_all_are_of home [] own h g = g
put_all_are_of home (r ∷ changed) own h g = put_all_are_of home changed (put_record r own) h.1 (put_are_of home r own h.0 g)

-- after records are put in their places, the lookup finds one of them, or else the record that was
-- there
pub find_put_all : (home : ℕ) (l : Id) (changed own : List Record) → AreOf home changed → AreOf home own → find (is_of l) (put_all changed own) ≡ option_or (find (is_of l) changed) (find (is_of l) own)
find_put_all home l [] own h g = refl
find_put_all home l (r ∷ changed) own h g =
    let at = h.homes.0 in
    let rest : AreOf home changed = record { homes = h.homes.1; ascending = h.ascending.1 } in
    find_put_all home l changed (put_record r own) rest (put_are_of home r own at g)
    ∙ ap (option_or (find (is_of l) changed)) (put_find home r own l at g)
    ∙ by (is_of l r) refl
  where
    by : (b : Bool) → is_of l r ≡ b → option_or (find (is_of l) changed) (cond b (Some r) (find (is_of l) own)) ≡ option_or (cond b (Some r) (find (is_of l) changed)) (find (is_of l) own)
    by true e = ap (λ o. option_or o (Some r)) (none_after l r changed h.ascending.0 e)
    by false e = refl

pub without_are_of : (home : ℕ) (removed : List Id) (own : List Record) → AreOf home own → AreOf home (without removed own)
without_are_of home removed own h = filter_are_of (stays removed) home own h

pub changes_are_of : (home : ℕ) (removed : List Id) (changed own : List Record) → AreOf home changed → AreOf home own → AreOf home (changed_by removed changed own)
changes_are_of home removed changed own h g = put_all_are_of home changed (without removed own) h.homes (without_are_of home removed own g)

-- among the records that stay, the lookup finds the record that was found before, if it is not
-- removed
pub found_kept : (home : ℕ) (removed : List Id) (own : List Record) (num : ℕ) → AreOf home own → found_at home (without removed own) num ≡ keep (stays removed) (found_at home own num)
found_kept home removed own num h = find_filter (stays removed) (record { home = home; num = num }) own h.ascending

-- after the changes, the lookup finds one of the changes, or else a record that stays
pub found_changed : (home : ℕ) (removed : List Id) (changed own : List Record) (num : ℕ) → AreOf home changed → AreOf home own → found_at home (changed_by removed changed own) num ≡ option_or (found_at home changed num) (found_at home (without removed own) num)
found_changed home removed changed own num h g =
    find_put_all home (record { home = home; num = num }) changed (without removed own) h (without_are_of home removed own g)

-- a record that was found is still found among those that stay, if it is not removed
pub kept_some : (home : ℕ) (removed : List Id) (own : List Record) (num : ℕ) (r : Record) (b : Bool) → AreOf home own → Some r ≡ found_at home own num → b ≡ list_any (λ l. is_of l r) removed → cond b None (Some r) ≡ found_at home (without removed own) num
kept_some home removed own num r b h e among =
    by b (list_any (λ l. is_of l r) removed) among ∙ ap (keep (stays removed)) e ∙ sym (found_kept home removed own num h)
  where
    by : (a b : Bool) → a ≡ b → cond a None (Some r) ≡ cond (not b) (Some r) None
    by true true e = refl
    by false false e = refl
    by true false e = absurd cc
    by false true e = absurd cc

pub kept_none : (home : ℕ) (removed : List Id) (own : List Record) (num : ℕ) → AreOf home own → None ≡ found_at home own num → None ≡ found_at home (without removed own) num
kept_none home removed own num h e = ap (keep (stays removed)) e ∙ sym (found_kept home removed own num h)

-- the same for changes whose home is given as that of another list
pub found_after : (home there : ℕ) (removed : List Id) (changed own : List Record) (num : ℕ) → there ≡ home → AreOf there changed → AreOf home own → option_or (found_at there changed num) (found_at home (without removed own) num) ≡ found_at home (changed_by removed changed own) num
found_after home there removed changed own num same h g =
    ap (λ n. option_or (found_at n changed num) (found_at home (without removed own) num)) same
    ∙ sym (found_changed home removed changed own num (subst (λ n. AreOf n changed) same h) g)
