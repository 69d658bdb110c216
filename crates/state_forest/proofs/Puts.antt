-- records after one more was put in its place
use Rattle.std.proofs.Common.{◌≡◌, ◌≤◌, ◌<◌, ◌+◌, ◌==◌, ◌∷◌, ◌++◌, ℕ, zero, suc, List, [], refl, sym, ap, ◌∙◌, Bool, true, false, cond, arith, Some, None, find, length, nat_lt, add-one, slice_get, is_some, set}
use Rattle.std.specs.List.{AllByRecursion, insert}
use Rattle.std.proofs.lemmas.Bool.Decides.{nat_tests}
use Rattle.state_ids.specs.Ids.{Id}
use Rattle.state_forest.specs.declared.record.Record.{Record}
use Rattle.state_forest.specs.Forests.{IsAscending, AreOf, is_of}
use Rattle.state_forest.specs.Places.{count_below, put_record, with_number}
use Rattle.state_forest.proofs.Places.{beyond_all}

-- if its number stands there, the record replaces the record there
pub put_set : (r : Record) (qs : List Record) → is_some (with_number r.num (slice_get qs (count_below r.num qs))) ≡ true → put_record r qs ≡ set qs (count_below r.num qs) r
put_set r [] e = absurd cc
put_set r (q ∷ qs) e = by (put_set r qs) (nat_lt q.num r.num) e
  where
    by : (is_some (with_number r.num (slice_get qs (count_below r.num qs))) ≡ true → put_record r qs ≡ set qs (count_below r.num qs) r) → (b : Bool) → is_some (with_number r.num (slice_get (q ∷ qs) (cond b (count_below r.num qs + 1) 0))) ≡ true → cond b (q ∷ put_record r qs) (cond (q.num == r.num) (r ∷ qs) (r ∷ q ∷ qs)) ≡ set (q ∷ qs) (cond b (count_below r.num qs + 1) 0) r
    by rest true e =
        let next : slice_get (q ∷ qs) (count_below r.num qs + 1) ≡ slice_get qs (count_below r.num qs) = rw add-one refl in
        let there : set (q ∷ qs) (count_below r.num qs + 1) r ≡ q ∷ set qs (count_below r.num qs) r = rw add-one refl in
        ap (λ xs. q ∷ xs) (rest (sym (ap (λ o. is_some (with_number r.num o)) next) ∙ e)) ∙ sym there
    by rest false e = here (q.num == r.num) e
      where
        here : (b : Bool) → is_some (cond b (Some q) None) ≡ true → cond b (r ∷ qs) (r ∷ q ∷ qs) ≡ r ∷ qs
        here true e = refl
        here false e = absurd cc

-- otherwise it is inserted
pub put_insert : (r : Record) (qs : List Record) → is_some (with_number r.num (slice_get qs (count_below r.num qs))) ≡ false → put_record r qs ≡ insert qs (count_below r.num qs) r
put_insert r [] e = refl
put_insert r (q ∷ qs) e = by (put_insert r qs) (nat_lt q.num r.num) e
  where
    by : (is_some (with_number r.num (slice_get qs (count_below r.num qs))) ≡ false → put_record r qs ≡ insert qs (count_below r.num qs) r) → (b : Bool) → is_some (with_number r.num (slice_get (q ∷ qs) (cond b (count_below r.num qs + 1) 0))) ≡ false → cond b (q ∷ put_record r qs) (cond (q.num == r.num) (r ∷ qs) (r ∷ q ∷ qs)) ≡ insert (q ∷ qs) (cond b (count_below r.num qs + 1) 0) r
    by rest true e =
        let next : slice_get (q ∷ qs) (count_below r.num qs + 1) ≡ slice_get qs (count_below r.num qs) = rw add-one refl in
        let there : insert (q ∷ qs) (count_below r.num qs + 1) r ≡ q ∷ insert qs (count_below r.num qs) r = rw add-one refl in
        ap (λ xs. q ∷ xs) (rest (sym (ap (λ o. is_some (with_number r.num o)) next) ∙ e)) ∙ sym there
    by rest false e = here (q.num == r.num) e
      where
        here : (b : Bool) → is_some (cond b (Some q) None) ≡ false → cond b (r ∷ qs) (r ∷ q ∷ qs) ≡ insert (q ∷ qs) 0 r
        here true e = absurd cc
        here false e = refl

-- a place with a record is within the list
pub some_within : (num : ℕ) (qs : List Record) (i : ℕ) → is_some (with_number num (slice_get qs i)) ≡ true → i < length qs
some_within num [] i e = absurd cc
some_within num (q ∷ qs) zero e = omega arith
some_within num (q ∷ qs) (suc i) e = omega (arith, some_within num qs i e)

all_put : (P : Record → Type 0) (r : Record) (qs : List Record) → P r → AllByRecursion P qs → AllByRecursion P (put_record r qs)
all_put P r [] at h = (at, tt)
all_put P r (q ∷ qs) at h = by (nat_lt q.num r.num) (q.num == r.num) (all_put P r qs at h.1)
  where
    by : (b c : Bool) → AllByRecursion P (put_record r qs) → AllByRecursion P (cond b (q ∷ put_record r qs) (cond c (r ∷ qs) (r ∷ q ∷ qs)))
    by true c rest = (h.0, rest)
    by false true rest = (at, h.1)
    by false false rest = (at, h)

put_ascends : (r : Record) (qs : List Record) → IsAscending qs → IsAscending (put_record r qs)
put_ascends r [] h = (tt, tt)
put_ascends r (q ∷ qs) h = by (nat_lt q.num r.num) refl (put_ascends r qs h.1)
  where
    by : (b : Bool) → nat_lt q.num r.num ≡ b → IsAscending (put_record r qs) → IsAscending (cond b (q ∷ put_record r qs) (cond (q.num == r.num) (r ∷ qs) (r ∷ q ∷ qs)))
    by true t rest = let less : q.num < r.num = grind (arith, nat_tests, t) in (all_put (λ x. q.num < x.num) r qs less h.0, rest)
    by false t rest = here (q.num == r.num) refl
      where
        here : (c : Bool) → (q.num == r.num) ≡ c → IsAscending (cond c (r ∷ qs) (r ∷ q ∷ qs))
        here true s = let same : r.num ≤ q.num = grind (arith, nat_tests, s) in (beyond_all r.num q.num qs same h.0, h.1)
        here false s = let less : r.num < q.num = grind (arith, nat_tests, s, t) in ((less, beyond_all r.num q.num qs (omega (arith, less)) h.0), h)

-- after one record is put, the records are still in order
pub put_are_of : (home : ℕ) (r : Record) (qs : List Record) → r.home ≡ home → AreOf home qs → AreOf home (put_record r qs)
put_are_of home r qs at h = record { homes = all_put (λ x. x.home ≡ home) r qs at h.homes; ascending = put_ascends r qs h.ascending }

-- a record that comes after all others is put last
pub put_behind : (r : Record) (rs : List Record) → AllByRecursion (λ (q : Record). q.num < r.num) rs → put_record r rs ≡ rs ++ r ∷ []
put_behind r [] all = refl
put_behind r (q ∷ rs) all = let less : nat_lt q.num r.num ≡ true = less_than q.num r.num all.0 in rw less (ap (λ (qs : List Record). q ∷ qs) (put_behind r rs all.1))
  where
    less_than : (a b : ℕ) → a < b → nat_lt a b ≡ true
    less_than a b e = grind (arith, nat_tests)

-- the put record is found, and the others are found as before
pub put_find : (home : ℕ) (r : Record) (qs : List Record) (l : Id) → r.home ≡ home → AreOf home qs → find (is_of l) (put_record r qs) ≡ cond (is_of l r) (Some r) (find (is_of l) qs)
put_find home r [] l at h = refl
put_find home r (q ∷ qs) l at h =
    let rest : AreOf home qs = record { homes = h.homes.1; ascending = h.ascending.1 } in
    by (nat_lt q.num r.num) refl (put_find home r qs l at rest)
  where
    swapped : (a b : Bool) → (a ≡ true → b ≡ false) → find (is_of l) (put_record r qs) ≡ cond b (Some r) (find (is_of l) qs) → cond a (Some q) (find (is_of l) (put_record r qs)) ≡ cond b (Some r) (cond a (Some q) (find (is_of l) qs))
    swapped true b only rest = rw (only refl) refl
    swapped false b only rest = rest

    other : nat_lt q.num r.num ≡ true → is_of l q ≡ true → is_of l r ≡ false
    other t e = grind (arith, nat_tests, t, e)

    alike : (q.num == r.num) ≡ true → is_of l q ≡ is_of l r
    alike s = grind (arith, nat_tests, s, at, h.homes.0)

    replaced : (a b : Bool) → a ≡ b → cond b (Some r) (find (is_of l) qs) ≡ cond b (Some r) (cond a (Some q) (find (is_of l) qs))
    replaced true true e = refl
    replaced false false e = refl
    replaced true false e = absurd cc
    replaced false true e = absurd cc

    by : (b : Bool) → nat_lt q.num r.num ≡ b → find (is_of l) (put_record r qs) ≡ cond (is_of l r) (Some r) (find (is_of l) qs) → find (is_of l) (cond b (q ∷ put_record r qs) (cond (q.num == r.num) (r ∷ qs) (r ∷ q ∷ qs))) ≡ cond (is_of l r) (Some r) (cond (is_of l q) (Some q) (find (is_of l) qs))
    by true t rest = swapped (is_of l q) (is_of l r) (other t) rest
    by false t rest = here (q.num == r.num) refl
      where
        here : (c : Bool) → (q.num == r.num) ≡ c → find (is_of l) (cond c (r ∷ qs) (r ∷ q ∷ qs)) ≡ cond (is_of l r) (Some r) (cond (is_of l q) (Some q) (find (is_of l) qs))
        here true s = replaced (is_of l q) (is_of l r) (alike s)
        here false s = refl
