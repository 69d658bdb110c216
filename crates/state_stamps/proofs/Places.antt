-- the places of entries in a list that is in order
use Rattle.std.proofs.Common.{◌≡◌, ◌≤◌, ◌<◌, ℕ, zero, suc, List, [], ◌∷◌, refl, ap, Bool, true, false, cond, arith, filter, drop, length, get_or, nat_lt, nat_le, slice_get}
use Rattle.std.specs.List.{AllByRecursion}
use Rattle.std.specs.List.Sorted.{IsPartitionPoint, IsPartitionedBy}
use Rattle.std.proofs.lemmas.Bool.Decides.{nat_tests}
use Rattle.state_stamps.specs.declared.stamp_entry.StampEntry.{StampEntry}
use Rattle.state_stamps.specs.Entries.{IsRising, count_before, is_before, is_entry}
use Rattle.state_stamps.proofs.Orders.{before_next, stamps_rise}

-- all elements behind one that fails the test fail it
abbrev Parts : (StampEntry → Bool) → List StampEntry → Type 0
Parts p [] = Unit {0}
Parts p (x ∷ xs) = (p x ≡ false → AllByRecursion (λ y. p y ≡ false) xs) × Parts p xs

at_place : (p : StampEntry → Bool) (xs : List StampEntry) (j : ℕ) (d : StampEntry) → AllByRecursion (λ y. p y ≡ false) xs → j < length xs → p (get_or xs j d) ≡ false
at_place p [] j d h e = absurd (omega (arith, e))
at_place p (x ∷ xs) zero d h e = h.0
at_place p (x ∷ xs) (suc j) d h e = at_place p xs j d h.1 (omega (arith, e))

parted : (p : StampEntry → Bool) (xs : List StampEntry) → Parts p xs → IsPartitionedBy p xs
parted p [] h i j d le less e = absurd (omega (arith, less))
parted p (x ∷ xs) h zero zero d le less e = e
parted p (x ∷ xs) h zero (suc j) d le less e = by (p x) refl
  where
    by : (b : Bool) → p x ≡ b → p x ≡ true
    by true t = t
    by false t = absurd (let fails : p (get_or xs j d) ≡ false = at_place p xs j d (h.0 t) (omega (arith, less)) in cc)
parted p (x ∷ xs) h (suc i) zero d le less e = absurd (omega (arith, le))
parted p (x ∷ xs) h (suc i) (suc j) d le less e = parted p xs h.1 i j d (omega (arith, le)) (omega (arith, less)) e

-- no entry behind one that doesn't come before e comes before e
none_before : (e x : StampEntry) (xs : List StampEntry) → is_before x e ≡ false → AllByRecursion (λ y. is_before x y ≡ true) xs → AllByRecursion (λ y. is_before y e ≡ false) xs
none_before e x [] t h = tt
none_before e x (y ∷ ys) t h = (by (is_before y e) refl, none_before e x ys t h.1)
  where
    by : (b : Bool) → is_before y e ≡ b → is_before y e ≡ false
    by false s = s
    by true s = absurd (let next = before_next x y e h.0 s in cc)

rising_parts : (e : StampEntry) (xs : List StampEntry) → IsRising xs → Parts (λ q. is_before q e) xs
rising_parts e [] h = tt
rising_parts e (x ∷ xs) h = ((λ t. none_before e x xs t h.0), rising_parts e xs h.1)

pub parted_before : (e : StampEntry) (xs : List StampEntry) → IsRising xs → IsPartitionedBy (λ q. is_before q e) xs
parted_before e xs h = parted (λ q. is_before q e) xs (rising_parts e xs h)

none_within : (count : ℕ) (x : StampEntry) (xs : List StampEntry) → nat_le x.stamp count ≡ false → AllByRecursion (λ y. is_before x y ≡ true) xs → AllByRecursion (λ (y : StampEntry). nat_le y.stamp count ≡ false) xs
none_within count x [] t h = tt
none_within count x (y ∷ ys) t h =
    let more : x.stamp ≤ y.stamp = stamps_rise x y h.0 in
    (beyond x.stamp y.stamp more t, none_within count x ys t h.1)
  where
    beyond : (a b : ℕ) → a ≤ b → nat_le a count ≡ false → nat_le b count ≡ false
    beyond a b e t = grind (arith, nat_tests)

stamp_parts : (count : ℕ) (xs : List StampEntry) → IsRising xs → Parts (λ (q : StampEntry). nat_le q.stamp count) xs
stamp_parts count [] h = tt
stamp_parts count (x ∷ xs) h = ((λ t. none_within count x xs t h.0), stamp_parts count xs h.1)

pub parted_to : (count : ℕ) (xs : List StampEntry) → IsRising xs → IsPartitionedBy (λ (q : StampEntry). nat_le q.stamp count) xs
parted_to count xs h = parted (λ q. nat_le q.stamp count) xs (stamp_parts count xs h)

-- all elements before the place pass the test, and none from it on does
abbrev pub Point : (StampEntry → Bool) → List StampEntry → ℕ → Type 0
Point p xs k = IsPartitionPoint (λ y. p y ≡ true) (λ y. p y ≡ false) xs k

-- so the partition point is the place of the entry
pub place_is : (e : StampEntry) (xs : List StampEntry) (k : ℕ) → k ≤ length xs → Point (λ q. is_before q e) xs k → k ≡ count_before e xs
place_is e [] k le p = omega (arith, le)
place_is e (x ∷ xs) k le p = by k le p (place_is e xs) (is_before x e) refl
  where
    by : (k : ℕ) → k ≤ length (x ∷ xs) → Point (λ q. is_before q e) (x ∷ xs) k → ((i : ℕ) → i ≤ length xs → Point (λ q. is_before q e) xs i → i ≡ count_before e xs)
        → (b : Bool) → is_before x e ≡ b → k ≡ cond b (suc (count_before e xs)) 0
    by zero le p rest true t = absurd (let past : is_before x e ≡ false = p.1 0 x (omega arith) (omega arith) in cc)
    by (suc k) le p rest true t =
        let next : k ≡ count_before e xs = rest k (omega (arith, le)) (
          (λ i d low high. p.0 (suc i) d (omega arith) (omega (arith, high))),
          (λ i d low high. p.1 (suc i) d (omega (arith, low)) (omega (arith, high))),
        ) in
        ap suc next
    by zero le p rest false t = refl
    by (suc k) le p rest false t = absurd (let before : is_before x e ≡ true = p.0 0 x (omega arith) (omega arith) in cc)

-- the entries behind the place are those with greater stamps
pub rest_is : (count : ℕ) (xs : List StampEntry) (k : ℕ) → k ≤ length xs → Point (λ (q : StampEntry). nat_le q.stamp count) xs k → drop k xs ≡ filter (λ (q : StampEntry). nat_lt count q.stamp) xs
rest_is count [] zero le p = refl
rest_is count [] (suc k) le p = absurd (omega (arith, le))
rest_is count (x ∷ xs) zero le p =
    let greater : nat_lt count x.stamp ≡ true = more x.stamp (p.1 0 x (omega arith) (omega arith)) in
    let none : drop 0 xs ≡ filter (λ (q : StampEntry). nat_lt count q.stamp) xs = rest_is count xs 0 (omega arith) (
      (λ i d low high. absurd (omega (arith, high))),
      (λ i d low high. p.1 (suc i) d (omega arith) (omega (arith, high))),
    ) in
    rw greater (ap (λ (ys : List StampEntry). x ∷ ys) none)
  where
    more : (a : ℕ) → nat_le a count ≡ false → nat_lt count a ≡ true
    more a e = grind (arith, nat_tests)
rest_is count (x ∷ xs) (suc k) le p =
    let within : nat_lt count x.stamp ≡ false = less x.stamp (p.0 0 x (omega arith) (omega arith)) in
    rw within (rest_is count xs k (omega (arith, le)) (
      (λ i d low high. p.0 (suc i) d (omega arith) (omega (arith, high))),
      (λ i d low high. p.1 (suc i) d (omega (arith, low)) (omega (arith, high))),
    ))
  where
    less : (a : ℕ) → nat_le a count ≡ true → nat_lt count a ≡ false
    less a e = grind (arith, nat_tests)

pub place_length : (e : StampEntry) (xs : List StampEntry) → count_before e xs ≤ length xs
place_length e [] = omega arith
place_length e (x ∷ xs) = by (is_before x e) (place_length e xs)
  where
    by : (b : Bool) → count_before e xs ≤ length xs → cond b (suc (count_before e xs)) 0 ≤ length (x ∷ xs)
    by true rest = omega (arith, rest)
    by false rest = omega arith

-- a place that has an entry is within the list
pub entry_within : (e : StampEntry) (xs : List StampEntry) (i : ℕ) → is_entry e (slice_get xs i) ≡ true → i < length xs
entry_within e [] i t = absurd cc
entry_within e (x ∷ xs) zero t = omega arith
entry_within e (x ∷ xs) (suc i) t = omega (arith, entry_within e xs i t)
