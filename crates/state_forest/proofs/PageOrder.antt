-- the places of numbers on pages
use Rattle.std.proofs.Common.{◌≡◌, inl, inr, ◌≤◌, ◌<◌, ◌-◌, ◌++◌, ℕ, zero, suc, List, [], ◌∷◌, refl, sym, ◌∙◌, ap, true, false, arith, length, get_or, nat_lt, slice_get}
use Rattle.std.specs.List.{AllByRecursion}
use Rattle.std.specs.List.Sorted.{IsPartitionedBy, IsPartitionPoint}
use Rattle.std.specs.Option.{option_map_or}
use Rattle.std.proofs.lemmas.Bool.Decides.{nat_tests}
use Rattle.state_forest.specs.declared.record.Record.{Record}
use Rattle.state_forest.specs.Forests.{IsAscending}
use Rattle.state_forest.specs.Pages.{AreEmptyLast, FitsAt, IsPageOf, Reaches, empty_pages, lies_below, records_in}

-- Appended lists

pub all_left : (P : Record → Type 0) (ps qs : List Record) → AllByRecursion P (ps ++ qs) → AllByRecursion P ps
all_left P [] qs h = tt
all_left P (p ∷ ps) qs h = (h.0, all_left P ps qs h.1)

pub all_right : (P : Record → Type 0) (ps qs : List Record) → AllByRecursion P (ps ++ qs) → AllByRecursion P qs
all_right P [] qs h = h
all_right P (p ∷ ps) qs h = all_right P ps qs h.1

pub ascends_left : (ps qs : List Record) → IsAscending (ps ++ qs) → IsAscending ps
ascends_left [] qs h = tt
ascends_left (p ∷ ps) qs h = (all_left (λ q. p.num < q.num) ps qs h.0, ascends_left ps qs h.1)

pub ascends_right : (ps qs : List Record) → IsAscending (ps ++ qs) → IsAscending qs
ascends_right [] qs h = h
ascends_right (p ∷ ps) qs h = ascends_right ps qs h.1

-- The last of some records

last_of : (r q : Record) (rs : List Record) → slice_get (r ∷ q ∷ rs) (length (r ∷ q ∷ rs) - 1) ≡ slice_get (q ∷ rs) (length (q ∷ rs) - 1)
last_of r q rs = let next : length (r ∷ q ∷ rs) - 1 ≡ suc (length (q ∷ rs) - 1) = omega arith in ap (λ i. slice_get (r ∷ q ∷ rs) i) next

-- if a list of records lies below a number, all of its records have lesser numbers
pub all_below : (num : ℕ) (rs : List Record) → IsAscending rs → lies_below num rs ≡ true → AllByRecursion (λ (r : Record). r.num < num) rs
all_below num [] h e = tt
all_below num (r ∷ []) h e = (grind (arith, nat_tests, e), tt)
all_below num (r ∷ q ∷ rs) h e =
    let rest = all_below num (q ∷ rs) h.1 (sym (ap (λ o. option_map_or (λ (x : Record). nat_lt x.num num) o false) (last_of r q rs)) ∙ e) in
    (omega (arith, h.0.0, rest.0), rest)

pub below_of_all : (num : ℕ) (r : Record) (rs : List Record) → AllByRecursion (λ (x : Record). x.num < num) (r ∷ rs) → lies_below num (r ∷ rs) ≡ true
below_of_all num r [] h = let less = h.0 in grind (arith, nat_tests, less)
below_of_all num r (q ∷ rs) h = ap (λ o. option_map_or (λ (x : Record). nat_lt x.num num) o false) (last_of r q rs) ∙ below_of_all num q rs h.1

-- otherwise one of them reaches the number
pub reaches : (num : ℕ) (r : Record) (rs : List Record) → lies_below num (r ∷ rs) ≡ false → Reaches num (r ∷ rs)
reaches num r [] e = inl (grind (arith, nat_tests, e))
reaches num r (q ∷ rs) e = inr (reaches num q rs (sym (ap (λ o. option_map_or (λ (x : Record). nat_lt x.num num) o false) (last_of r q rs)) ∙ e))

-- The pages that lie below a number

all_on : (P : Record → Type 0) (ps : List (List Record)) (j : ℕ) (d : List Record) → j < length ps → AllByRecursion P (records_in ps) → AllByRecursion P (get_or ps j d)
all_on P [] j d e h = absurd (omega (arith, e))
all_on P (p ∷ ps) zero d e h = all_left P p (records_in ps) h
all_on P (p ∷ ps) (suc j) d e h = all_on P ps j d (omega (arith, e)) (all_right P p (records_in ps) h)

pub none_on : (ps : List (List Record)) (j : ℕ) (d : List Record) → j < length ps → records_in ps ≡ [] → get_or ps j d ≡ []
none_on [] j d e h = absurd (omega (arith, e))
none_on ([] ∷ ps) zero d e h = refl
none_on ((r ∷ rs) ∷ ps) j d e h = absurd cc
none_on ([] ∷ ps) (suc j) d e h = none_on ps j d (omega (arith, e)) h

-- all records that come before a page have lesser numbers than any record on it
before : (num : ℕ) (rs qs xs : List Record) → IsAscending (rs ++ qs) → ((P : Record → Type 0) → AllByRecursion P qs → AllByRecursion P xs) → lies_below num xs ≡ true → AllByRecursion (λ (r : Record). r.num < num) rs
before num [] qs xs h on e = tt
before num (r ∷ rs) qs [] h on e = absurd cc
before num (r ∷ rs) qs (x ∷ xs) h on e =
    let more = on (λ q. r.num < q.num) (all_right (λ q. r.num < q.num) rs qs h.0) in
    (below r (x ∷ xs) more e, before num rs qs (x ∷ xs) h.1 on e)
  where
    below : (r : Record) (xs : List Record) → AllByRecursion (λ (q : Record). r.num < q.num) xs → lies_below num xs ≡ true → r.num < num
    below r [] m e = absurd cc
    below r (x ∷ []) m e = let more = m.0 in grind (arith, nat_tests, e, more)
    below r (x ∷ y ∷ xs) m e = below r (y ∷ xs) m.1 (sym (ap (λ o. option_map_or (λ (q : Record). nat_lt q.num num) o false) (last_of x y xs)) ∙ e)

pub parted : (num : ℕ) (ps : List (List Record)) → IsAscending (records_in ps) → AreEmptyLast ps → IsPartitionedBy (lies_below num) ps
parted num [] h l i j d le less e = absurd (omega (arith, less))
parted num (p ∷ ps) h l zero zero d le less e = e
parted num ([] ∷ ps) h l zero (suc j) d le less e = absurd (let none = none_on ps j d (omega (arith, less)) l in cc)
parted num ((r ∷ rs) ∷ ps) h l zero (suc j) d le less e =
    below_of_all num r rs (before num (r ∷ rs) (records_in ps) (get_or ps j d) h (λ P all. all_on P ps j d (omega (arith, less)) all) e)
parted num (p ∷ ps) h l (suc i) zero d le less e = absurd (omega (arith, le))
parted num ([] ∷ ps) h l (suc i) (suc j) d le less e = absurd (let none = none_on ps j d (omega (arith, less)) l in cc)
parted num ((r ∷ rs) ∷ ps) h l (suc i) (suc j) d le less e = parted num ps (ascends_right (r ∷ rs) (records_in ps) h) l i j d (omega (arith, le)) (omega (arith, less)) e

-- so the partition point of the pages is the page of the number
pub page_is : (num : ℕ) (ps : List (List Record)) (k : ℕ) → k ≤ length ps → IsPartitionPoint (λ p. lies_below num p ≡ true) (λ p. lies_below num p ≡ false) ps k → IsPageOf num k ps
page_is num [] zero e h = tt
page_is num [] (suc k) e h = absurd (omega (arith, e))
page_is num (p ∷ ps) zero e h = h.1 0 p (omega arith) (omega arith)
page_is num (p ∷ ps) (suc k) e h = (
  h.0 0 p (omega arith) (omega arith),
  page_is num ps k (omega (arith, e)) (
    (λ i d low high. h.0 (suc i) d (omega arith) (omega (arith, high))),
    (λ i d low high. h.1 (suc i) d (omega (arith, low)) (omega (arith, high))),
  ),
)

-- if the page of the number is one of the pages, a record with the number fits there
pub page_fits : (num : ℕ) (ps : List (List Record)) (k : ℕ) → IsAscending (records_in ps) → AreEmptyLast ps → k < length ps → IsPageOf num k ps → FitsAt num k ps
page_fits num [] k h l e at = absurd (omega (arith, e))
page_fits num ([] ∷ ps) zero h l e at = inr l
page_fits num ((r ∷ rs) ∷ ps) zero h l e at = inl (reaches num r rs at)
page_fits num ([] ∷ ps) (suc k) h l e at = absurd (let none = at.0 in cc)
page_fits num ((r ∷ rs) ∷ ps) (suc k) h l e at = (
  all_below num (r ∷ rs) (ascends_left (r ∷ rs) (records_in ps) h) at.0,
  page_fits num ps k (ascends_right (r ∷ rs) (records_in ps) h) l (omega (arith, e)) at.1,
)

-- otherwise all records have lesser numbers
pub all_lesser : (num : ℕ) (ps : List (List Record)) (k : ℕ) → IsAscending (records_in ps) → AreEmptyLast ps → length ps ≤ k → IsPageOf num k ps → AllByRecursion (λ (r : Record). r.num < num) (records_in ps)
all_lesser num [] k h l e at = tt
all_lesser num (p ∷ ps) zero h l e at = absurd (omega (arith, e))
all_lesser num ([] ∷ ps) (suc k) h l e at = absurd (let none = at.0 in cc)
all_lesser num ((r ∷ rs) ∷ ps) (suc k) h l e at =
    both (r ∷ rs) (all_below num (r ∷ rs) (ascends_left (r ∷ rs) (records_in ps) h) at.0) (all_lesser num ps k (ascends_right (r ∷ rs) (records_in ps) h) l (omega (arith, e)) at.1)
  where
    both : (xs : List Record) → AllByRecursion (λ (x : Record). x.num < num) xs → AllByRecursion (λ (x : Record). x.num < num) (records_in ps) → AllByRecursion (λ (x : Record). x.num < num) (xs ++ records_in ps)
    both [] h rest = rest
    both (x ∷ xs) h rest = (h.0, both xs h.1 rest)

-- a page of a number is one of the pages, if there is an empty page
pub page_within : (num : ℕ) (ps : List (List Record)) (k : ℕ) → 1 ≤ empty_pages ps → IsPageOf num k ps → k < length ps
page_within num [] k e at = absurd (omega (arith, e))
page_within num (p ∷ ps) zero e at = omega arith
page_within num ([] ∷ ps) (suc k) e at = absurd (let none = at.0 in cc)
page_within num ((r ∷ rs) ∷ ps) (suc k) e at = omega (arith, page_within num ps k e at.1)

-- a record that belongs on the empty page behind all others fits on the one before it
pub fits_before : (num : ℕ) (ps : List (List Record)) (k : ℕ) → IsAscending (records_in ps) → AreEmptyLast ps → IsPageOf num (suc k) ps → get_or ps (suc k) [] ≡ [] → FitsAt num k ps
fits_before num [] k h l at e = absurd at
fits_before num ([] ∷ ps) k h l at e = absurd (let none = at.0 in cc)
fits_before num ((r ∷ rs) ∷ ps) zero h l at e = inr (nothing ps l e)
  where
    nothing : (ps : List (List Record)) → AreEmptyLast ps → get_or ps 0 [] ≡ [] → records_in ps ≡ []
    nothing [] l e = refl
    nothing ([] ∷ ps) l e = l
    nothing ((r ∷ rs) ∷ ps) l e = absurd cc
fits_before num ((r ∷ rs) ∷ ps) (suc k) h l at e = (
  all_below num (r ∷ rs) (ascends_left (r ∷ rs) (records_in ps) h) at.0,
  fits_before num ps k (ascends_right (r ∷ rs) (records_in ps) h) l at.1 e,
)
