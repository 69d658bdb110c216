-- the places of numbers in records that are in order
use Rattle.std.proofs.Common.{◌≡◌, ◌≤◌, ◌<◌, ◌+◌, ℕ, zero, suc, List, [], ◌∷◌, refl, sym, ◌∙◌, Bool, true, false, cond, arith, Some, None, find, length, get_or, nat_lt, ◌==◌, add-one, slice_get}
use Rattle.std.specs.List.{AllByRecursion}
use Rattle.std.specs.List.Sorted.{IsNonDecreasingBy, IsPartitionPoint}
use Rattle.std.proofs.lemmas.Bool.Decides.{nat_tests}
use Rattle.state_ids.specs.Ids.{Id}
use Rattle.state_forest.specs.declared.record.Record.{Record}
use Rattle.state_forest.specs.Forests.{IsAscending, AreOf, is_of}
use Rattle.state_forest.specs.Places.{count_below, with_number}

lesser_num : (n : ℕ) (q : Record) (rs : List Record) (i : ℕ) (d : Record) → AllByRecursion (λ (x : Record). n < x.num) (q ∷ rs) → i < length (q ∷ rs) → n < (get_or (q ∷ rs) i d).num
lesser_num n q rs zero d h e = h.0
lesser_num n q [] (suc i) d h e = absurd (omega (arith, e))
lesser_num n q (r ∷ rs) (suc i) d h e = lesser_num n r rs i d h.1 (omega (arith, e))

-- the numbers of records in order rise
pub rises : (rs : List Record) → IsAscending rs → IsNonDecreasingBy (λ (r : Record). r.num) rs
rises [] h i j d le less = absurd (omega (arith, less))
rises (r ∷ rs) h zero zero d le less = omega arith
rises (r ∷ []) h zero (suc j) d le less = absurd (omega (arith, less))
rises (r ∷ q ∷ rs) h zero (suc j) d le less = omega (arith, lesser_num r.num q rs j d h.0 (omega (arith, less)))
rises (r ∷ rs) h (suc i) zero d le less = absurd (omega (arith, le))
rises (r ∷ rs) h (suc i) (suc j) d le less = rises rs h.1 i j d (omega (arith, le)) (omega (arith, less))

-- all records before the place have lesser numbers, and none from it on has
abbrev pub Parts : ℕ → List Record → ℕ → Type 0
Parts num rs k = IsPartitionPoint (λ (r : Record). nat_lt r.num num ≡ true) (λ (r : Record). nat_lt r.num num ≡ false) rs k

-- so the partition point is the place of the number
pub place_is : (num : ℕ) (rs : List Record) (k : ℕ) → k ≤ length rs → Parts num rs k → k ≡ count_below num rs
place_is num [] k e p = omega (arith, e)
place_is num (r ∷ rs) k e p = by k e p (place_is num rs) (nat_lt r.num num) refl
  where
    by : (k : ℕ) → k ≤ length (r ∷ rs) → Parts num (r ∷ rs) k → ((i : ℕ) → i ≤ length rs → Parts num rs i → i ≡ count_below num rs)
        → (b : Bool) → nat_lt r.num num ≡ b → k ≡ cond b (count_below num rs + 1) 0
    by zero e p rest true t = absurd (let past : nat_lt r.num num ≡ false = p.1 0 r (omega arith) (omega arith) in cc)
    by (suc k) e p rest true t = omega (
      arith,
      rest k (omega (arith, e)) (
        (λ i d low high. p.0 (suc i) d (omega arith) (omega (arith, high))),
        (λ i d low high. p.1 (suc i) d (omega (arith, low)) (omega (arith, high))),
      ),
    )
    by zero e p rest false t = refl
    by (suc k) e p rest false t = absurd (let before : nat_lt r.num num ≡ true = p.0 0 r (omega arith) (omega arith) in cc)

pub place_length : (num : ℕ) (rs : List Record) → count_below num rs ≤ length rs
place_length num [] = omega arith
place_length num (r ∷ rs) = by (nat_lt r.num num) (place_length num rs)
  where
    by : (b : Bool) → count_below num rs ≤ length rs → cond b (count_below num rs + 1) 0 ≤ length (r ∷ rs)
    by true rest = omega (arith, rest)
    by false rest = omega arith

-- no record is of l if each has a greater number than l
pub none_of : (l : Id) (rs : List Record) → AllByRecursion (λ (x : Record). l.num < x.num) rs → find (is_of l) rs ≡ None
none_of l [] h = refl
none_of l (r ∷ rs) h = by (is_of l r) refl (none_of l rs h.1)
  where
    by : (b : Bool) → is_of l r ≡ b → find (is_of l) rs ≡ None → cond b (Some r) (find (is_of l) rs) ≡ None
    by true t rest = absurd (grind (arith, nat_tests, t, h.0))
    by false t rest = rest

pub beyond_all : (n m : ℕ) (rs : List Record) → n ≤ m → AllByRecursion (λ (x : Record). m < x.num) rs → AllByRecursion (λ (x : Record). n < x.num) rs
beyond_all n m [] e h = tt
beyond_all n m (r ∷ rs) e h = (omega (arith, h.0, e), beyond_all n m rs e h.1)

-- the lookup finds what stands at the place of the number, if that has the number
pub found_place : (l : Id) (rs : List Record) → AreOf l.home rs → find (is_of l) rs ≡ with_number l.num (slice_get rs (count_below l.num rs))
found_place l [] h = refl
found_place l (r ∷ rs) h =
    let rest : AreOf l.home rs = record { homes = h.homes.1; ascending = h.ascending.1 } in
    by (found_place l rs rest) (nat_lt r.num l.num) refl
  where
    by : find (is_of l) rs ≡ with_number l.num (slice_get rs (count_below l.num rs)) → (b : Bool) → nat_lt r.num l.num ≡ b → find (is_of l) (r ∷ rs) ≡ with_number l.num (slice_get (r ∷ rs) (cond b (count_below l.num rs + 1) 0))
    by tail true t =
        let next : slice_get (r ∷ rs) (count_below l.num rs + 1) ≡ slice_get rs (count_below l.num rs) = rw add-one refl in
        let other : is_of l r ≡ false = grind (arith, nat_tests, t) in
        rw (other, next) tail
    by tail false t = here (r.num == l.num) refl
      where
        here : (b : Bool) → (r.num == l.num) ≡ b → cond (is_of l r) (Some r) (find (is_of l) rs) ≡ cond (r.num == l.num) (Some r) None
        here true same =
            let of : is_of l r ≡ true = grind (arith, nat_tests, h.homes.0, same) in
            rw (of, same) refl
        here false other =
            let less : l.num < r.num = grind (arith, nat_tests, t, other) in
            let none : is_of l r ≡ false = grind (arith, nat_tests, less) in
            rw (none, other) (none_of l rs (beyond_all l.num r.num rs (omega arith) h.ascending.0))

-- nothing is found of an LRA of another home
pub other_home : (l : Id) (home : ℕ) (rs : List Record) → AllByRecursion (λ (x : Record). x.home ≡ home) rs → (l.home ≡ home → ⊥) → find (is_of l) rs ≡ None
other_home l home [] h e = refl
other_home l home (r ∷ rs) h e = by (other_home l home rs h.1 e) (r.home == l.home) refl
  where
    by : find (is_of l) rs ≡ None → (b : Bool) → (r.home == l.home) ≡ b → find (is_of l) (r ∷ rs) ≡ None
    by rest true t = let same : r.home ≡ l.home = grind (arith, nat_tests, t) in absurd (e (sym same ∙ h.0))
    by rest false t = let none : is_of l r ≡ false = grind (arith, nat_tests, t) in rw none rest
