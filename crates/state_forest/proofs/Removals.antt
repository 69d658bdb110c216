-- records after one was removed, and the room that is left
use Rattle.std.proofs.Common.{◌≡◌, ◌≤◌, ◌<◌, ◌+◌, ◌==◌, ◌∷◌, ℕ, List, [], refl, sym, ap, subst, ◌∙◌, Bool, true, false, cond, arith, Some, None, find, filter, nat_lt, add-one, slice_get, is_some}
use mathlib.Core.Bool.{not}
use Rattle.std.specs.List.{AllByRecursion, remove}
use Rattle.std.proofs.lemmas.Bool.Decides.{nat_tests}
use Rattle.state_ids.specs.Ids.{Id}
use Rattle.state_forest.specs.declared.record.Record.{Record}
use Rattle.state_forest.specs.Forests.{HomeRecords, IsAscending, AreOf, id_of, is_of}
use Rattle.state_forest.specs.Places.{count_below, with_number}
use Rattle.state_forest.proofs.Places.{beyond_all, found_place}

-- if every record passes the test, all stay
pub keeps_all : (t : Record → Bool) (qs : List Record) → AllByRecursion (λ r. t r ≡ true) qs → filter t qs ≡ qs
keeps_all t [] h = refl
keeps_all t (q ∷ qs) h = let here = h.0 in rw here (ap (λ xs. q ∷ xs) (keeps_all t qs h.1))

other_numbers : (num : ℕ) (qs : List Record) → AllByRecursion (λ r. num < r.num) qs → AllByRecursion (λ r. not (r.num == num) ≡ true) qs
other_numbers num [] h = tt
other_numbers num (q ∷ qs) h = let more = h.0 in (grind (arith, nat_tests, more), other_numbers num qs h.1)

pub none_beyond : (num : ℕ) (qs : List Record) → AllByRecursion (λ r. num < r.num) qs → filter (λ r. not (r.num == num)) qs ≡ qs
none_beyond num qs h = keeps_all (λ r. not (r.num == num)) qs (other_numbers num qs h)

-- if the number stands there, the record there is taken away
pub remove_at : (num : ℕ) (qs : List Record) → IsAscending qs → is_some (with_number num (slice_get qs (count_below num qs))) ≡ true → remove qs (count_below num qs) ≡ filter (λ r. not (r.num == num)) qs
remove_at num [] h e = absurd cc
remove_at num (q ∷ qs) h e = by (remove_at num qs h.1) (nat_lt q.num num) refl e
  where
    by : (is_some (with_number num (slice_get qs (count_below num qs))) ≡ true → remove qs (count_below num qs) ≡ filter (λ r. not (r.num == num)) qs) → (b : Bool) → nat_lt q.num num ≡ b → is_some (with_number num (slice_get (q ∷ qs) (cond b (count_below num qs + 1) 0))) ≡ true → remove (q ∷ qs) (cond b (count_below num qs + 1) 0) ≡ filter (λ r. not (r.num == num)) (q ∷ qs)
    by rest true t e =
        let next : slice_get (q ∷ qs) (count_below num qs + 1) ≡ slice_get qs (count_below num qs) = rw add-one refl in
        let there : remove (q ∷ qs) (count_below num qs + 1) ≡ q ∷ remove qs (count_below num qs) = rw add-one refl in
        let other : (q.num == num) ≡ false = grind (arith, nat_tests, t) in
        there ∙ ap (λ xs. q ∷ xs) (rest (sym (ap (λ o. is_some (with_number num o)) next) ∙ e)) ∙ rw other refl
    by rest false t e = here (q.num == num) refl e
      where
        here : (c : Bool) → (q.num == num) ≡ c → is_some (cond c (Some q) None) ≡ true → qs ≡ cond (not c) (q ∷ filter (λ r. not (r.num == num)) qs) (filter (λ r. not (r.num == num)) qs)
        here true s e = let same : num ≤ q.num = grind (arith, nat_tests, s) in sym (none_beyond num qs (beyond_all num q.num qs same h.0))
        here false s e = absurd cc

-- otherwise nothing is taken away
pub remove_none : (num : ℕ) (qs : List Record) → IsAscending qs → is_some (with_number num (slice_get qs (count_below num qs))) ≡ false → qs ≡ filter (λ r. not (r.num == num)) qs
remove_none num [] h e = refl
remove_none num (q ∷ qs) h e = by (remove_none num qs h.1) (nat_lt q.num num) refl e
  where
    by : (is_some (with_number num (slice_get qs (count_below num qs))) ≡ false → qs ≡ filter (λ r. not (r.num == num)) qs) → (b : Bool) → nat_lt q.num num ≡ b → is_some (with_number num (slice_get (q ∷ qs) (cond b (count_below num qs + 1) 0))) ≡ false → q ∷ qs ≡ filter (λ r. not (r.num == num)) (q ∷ qs)
    by rest true t e =
        let next : slice_get (q ∷ qs) (count_below num qs + 1) ≡ slice_get qs (count_below num qs) = rw add-one refl in
        let other : (q.num == num) ≡ false = grind (arith, nat_tests, t) in
        ap (λ xs. q ∷ xs) (rest (sym (ap (λ o. is_some (with_number num o)) next) ∙ e)) ∙ rw other refl
    by rest false t e = here (q.num == num) refl e
      where
        here : (c : Bool) → (q.num == num) ≡ c → is_some (cond c (Some q) None) ≡ false → q ∷ qs ≡ cond (not c) (q ∷ filter (λ r. not (r.num == num)) qs) (filter (λ r. not (r.num == num)) qs)
        here true s e = absurd cc
        here false s e = let less : num ≤ q.num = grind (arith, nat_tests, s, t) in ap (λ xs. q ∷ xs) (sym (none_beyond num qs (beyond_all num q.num qs less h.0)))

-- among records of its home, those of an LRA are those with its number
pub filter_own : (l : Id) (home : ℕ) (qs : List Record) → l.home ≡ home → AllByRecursion (λ r. r.home ≡ home) qs → filter (λ r. not (r.num == l.num)) qs ≡ filter (λ r. not (is_of l r)) qs
filter_own l home [] at h = refl
filter_own l home (q ∷ qs) at h =
    let own = h.0 in
    let same : not (is_of l q) ≡ not (q.num == l.num) = ap not (alike (sym own)) in
    by (filter_own l home qs at h.1) (not (q.num == l.num)) (not (is_of l q)) (sym same)
  where
    alike : home ≡ q.home → is_of l q ≡ (q.num == l.num)
    alike own = let own_home : (q.home == l.home) ≡ true = grind (arith, nat_tests, own, at) in rw own_home refl

    by : filter (λ r. not (r.num == l.num)) qs ≡ filter (λ r. not (is_of l r)) qs → (a b : Bool) → a ≡ b → cond a (q ∷ filter (λ r. not (r.num == l.num)) qs) (filter (λ r. not (r.num == l.num)) qs) ≡ cond b (q ∷ filter (λ r. not (is_of l r)) qs) (filter (λ r. not (is_of l r)) qs)
    by rest true true e = ap (λ xs. q ∷ xs) rest
    by rest false false e = rest
    by rest true false e = absurd cc
    by rest false true e = absurd cc

-- among records of another home none is of that LRA
pub filter_other : (l : Id) (home : ℕ) (qs : List Record) → (l.home ≡ home → ⊥) → AllByRecursion (λ r. r.home ≡ home) qs → qs ≡ filter (λ r. not (is_of l r)) qs
filter_other l home qs at h = sym (keeps_all (λ r. not (is_of l r)) qs (others qs h))
  where
    other : (q : Record) → q.home ≡ home → (b : Bool) → (q.home == l.home) ≡ b → not (is_of l q) ≡ true
    other q own true t = let same : q.home ≡ l.home = grind (arith, nat_tests, t) in absurd (at (sym same ∙ own))
    other q own false t = rw t refl

    others : (xs : List Record) → AllByRecursion (λ r. r.home ≡ home) xs → AllByRecursion (λ r. not (is_of l r) ≡ true) xs
    others [] h = tt
    others (x ∷ xs) h = (other x h.0 (x.home == l.home) refl, others xs h.1)

kept_all : (P : Record → Type 0) (t : Record → Bool) (qs : List Record) → AllByRecursion P qs → AllByRecursion P (filter t qs)
kept_all P t [] h = tt
kept_all P t (q ∷ qs) h = by (t q) (kept_all P t qs h.1)
  where
    by : (b : Bool) → AllByRecursion P (filter t qs) → AllByRecursion P (cond b (q ∷ filter t qs) (filter t qs))
    by true rest = (h.0, rest)
    by false rest = rest

kept_ascends : (t : Record → Bool) (qs : List Record) → IsAscending qs → IsAscending (filter t qs)
kept_ascends t [] h = tt
kept_ascends t (q ∷ qs) h = by (t q) (kept_ascends t qs h.1)
  where
    by : (b : Bool) → IsAscending (filter t qs) → IsAscending (cond b (q ∷ filter t qs) (filter t qs))
    by true rest = (kept_all (λ x. q.num < x.num) t qs h.0, rest)
    by false rest = rest

-- the records that pass a test are still in order
pub filter_are_of : (t : Record → Bool) (home : ℕ) (qs : List Record) → AreOf home qs → AreOf home (filter t qs)
filter_are_of t home qs h = record { homes = kept_all (λ r. r.home ≡ home) t qs h.homes; ascending = kept_ascends t qs h.ascending }

-- there is room for a record if none is to be replaced
pub room_for : (home : ℕ) (qs : List Record) (spare : ℕ) (h : HomeRecords) (r : Record) → ◌≡◌ {A = HomeRecords} (record { home = home; records = qs; spare = spare }) h → AreOf home qs → r.home ≡ h.home → (find (is_of (id_of r)) h.records ≡ None → 1 ≤ h.spare) → with_number r.num (slice_get qs (count_below r.num qs)) ≡ None → 1 ≤ spare
room_for home qs spare h r view order at room none =
    let same : r.home ≡ home = at ∙ sym (ap (λ (x : HomeRecords). x.home) view) in
    let found : find (is_of (id_of r)) qs ≡ None = found_place (id_of r) qs (subst (λ (n : ℕ). AreOf n qs) (sym same) order) ∙ none in
    let some : 1 ≤ h.spare = room (ap (λ (x : HomeRecords). find (is_of (id_of r)) x.records) (sym view) ∙ found) in
    omega (arith, some, ap (λ (x : HomeRecords). x.spare) view)
