-- some of the records of a home
use Rattle.std.proofs.Common.{◌≡◌, ◌≤◌, ◌<◌, ◌-◌, ◌==◌, ◌&&◌, ◌||◌, ℕ, suc, List, [], ◌∷◌, refl, ap, subst, ◌∙◌, Bool, true, false, cond, arith, Option, Some, None, filter, find, get_or, is_some, map}
use Rattle.std.proofs.lemmas.Bool.Decides.{nat_tests}
use Rattle.std.specs.List.{AllByRecursion, list_any}
use Rattle.state_ids.specs.Ids.{Id}
use Rattle.state_forest.specs.declared.record.Record.{Record}
use Rattle.state_forest.specs.Forests.{IsAscending, is_of}
use Rattle.state_forest.specs.Records.{nodes_to}
use Rattle.state_forest.proofs.Places.{none_of}
use Rattle.theory_history.proofs.MergedRecords.{nth_of}
use Rattle.wire_frames.specs.Frames.{IsRising}

-- a property of all elements holds of those that pass
all_passing : {X : Type 0} (P : X → Type 0) (p : X → Bool) (xs : List X) → AllByRecursion P xs → AllByRecursion P (filter p xs)
all_passing P p [] all = tt
all_passing {X} P p (x ∷ xs) all = by (p x) (all_passing P p xs all.1)
  where
    by : (b : Bool) → AllByRecursion P (filter p xs) → AllByRecursion P (cond b (x ∷ filter p xs) (filter p xs))
    by true rest = (all.0, rest)
    by false rest = rest

-- the record, if it passes
abbrev pub passed : (Record → Bool) → Option Record → Option Record
passed p None = None
passed p (Some r) = cond (p r) (Some r) None

own_num : (l : Id) (r : Record) → is_of l r ≡ true → r.num ≡ l.num
own_num l r e = grind (arith, nat_tests, e)

-- no record that comes after one with this number has the number
none_after : (l : Id) (r : Record) (rs : List Record) → is_of l r ≡ true → AllByRecursion (λ (q : Record). r.num < q.num) rs → find (is_of l) rs ≡ None
none_after l r rs e all = none_of l rs (subst (λ (n : ℕ). AllByRecursion (λ (q : Record). n < q.num) rs) (own_num l r e) all)

-- what is found among the records that pass is what was found, if it passes
pub find_passing : (l : Id) (p : Record → Bool) (rs : List Record) → IsAscending rs → find (is_of l) (filter p rs) ≡ passed p (find (is_of l) rs)
find_passing l p [] up = refl
find_passing l p (r ∷ rs) up =
    by (is_of l r) (p r) refl refl (find_passing l p rs up.1)
  where
    by : (own pass : Bool) → is_of l r ≡ own → p r ≡ pass → find (is_of l) (filter p rs) ≡ passed p (find (is_of l) rs) → find (is_of l) (filter p (r ∷ rs)) ≡ passed p (find (is_of l) (r ∷ rs))
    by true true e f rest = rw (f, e, f) refl
    by true false e f rest = rw (f, e, f) (none_after l r (filter p rs) e (all_passing (λ (q : Record). r.num < q.num) p rs up.0))
    by false true e f rest = rw (f, e) rest
    by false false e f rest = rw (f, e) rest

-- Numbers

rising_all : (n : ℕ) (rs : List Record) → AllByRecursion (λ (q : Record). n < q.num) rs → AllByRecursion (λ (k : ℕ). n < k) (map (λ (r : Record). r.num) rs)
rising_all n [] all = tt
rising_all n (r ∷ rs) all = (all.0, rising_all n rs all.1)

pub rising_numbers : (rs : List Record) → IsAscending rs → IsRising (map (λ (r : Record). r.num) rs)
rising_numbers [] up = tt
rising_numbers (r ∷ rs) up = (rising_all r.num rs up.0, rising_numbers rs up.1)

own_home : (a b : ℕ) → a ≡ b → (a == b) ≡ true
own_home a b e = grind (arith, nat_tests)

-- a number is listed exactly if its record is found
pub listed_found : (l : Id) (rs : List Record) → AllByRecursion (λ (r : Record). r.home ≡ l.home) rs → list_any (λ n. n == l.num) (map (λ (r : Record). r.num) rs) ≡ is_some (find (is_of l) rs)
listed_found l [] own = refl
listed_found l (r ∷ rs) own = by (r.home == l.home) (r.num == l.num) (own_home r.home l.home own.0) (listed_found l rs own.1)
  where
    by : (home num : Bool) → home ≡ true → list_any (λ n. n == l.num) (map (λ (q : Record). q.num) rs) ≡ is_some (find (is_of l) rs) → (num || list_any (λ n. n == l.num) (map (λ (q : Record). q.num) rs)) ≡ is_some (cond (home && num) (Some r) (find (is_of l) rs))
    by true true e rest = refl
    by true false e rest = rest
    by false num e rest = absurd cc

-- Lists of what each home has

-- the element at a home's place is that of the home
pub at_home : {X : Type 0} (g : ℕ → X) (d : X) (n home : ℕ) → 1 ≤ home → home ≤ n → get_or (map g (nodes_to n)) (home - 1) d ≡ g home
at_home g d n home low high =
    let back : suc (home - 1) ≡ home = omega (arith, low) in
    nth_of g d n (home - 1) (omega (arith, low, high)) ∙ ap g back
