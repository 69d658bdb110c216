-- Counting over lists, and when two participants are the same.
use Rattle.std.proofs.Common.{◌≡◌, ◌≤◌, ◌+◌, ◌∷◌, [], ◌&&◌, ◌==◌, ◌∙◌, ℕ, Bool, true, false, List, Some, ap, arith, cond, filter, map, not, refl, sym, length, ◌<◌, get_or, zero, suc}
use Rattle.std.proofs.lemmas.Bool.{eqb-true}
use Rattle.std.proofs.lemmas.List.Filters.{sum_by-filter_both}
use Rattle.std.proofs.lemmas.List.Sums.{sum_by-cons}
use Rattle.std.specs.List.{count_by, position_from, sum_by}
use Rattle.state_ids.specs.Ids.{Id, same_id}
use Rattle.node_schedule.specs.Slips.{same_called, same_flag}
use Rattle.node_schedule.specs.declared.slip.Called.{Called}

-- if the sum is below the third for each element, the two sums together are below the third sum
pub sums_below : {X : Type 0} (f g h : X → ℕ) → ((x : X) → f x + g x ≤ h x) → (xs : List X) → sum_by f xs + sum_by g xs ≤ sum_by h xs
sums_below f g h each [] = omega arith
sums_below f g h each (x ∷ xs) = omega (arith, sum_by-cons f x xs, sum_by-cons g x xs, sum_by-cons h x xs, each x, sums_below f g h each xs)

pub sums_alike : {X : Type 0} (f g : X → ℕ) → ((x : X) → f x ≡ g x) → (xs : List X) → sum_by f xs ≡ sum_by g xs
sums_alike f g each [] = refl
sums_alike f g each (x ∷ xs) = omega (arith, sum_by-cons f x xs, sum_by-cons g x xs, each x, sums_alike f g each xs)

pub sums_mapped : {X : Type 0} (f : X → ℕ) (change : X → X) (xs : List X) → sum_by f (map change xs) ≡ sum_by (λ x. f (change x)) xs
sums_mapped f change [] = refl
sums_mapped f change (x ∷ xs) = omega (arith, sum_by-cons f (change x) (map change xs), sum_by-cons (λ x. f (change x)) x xs, sums_mapped f change xs)

-- a count over the changed elements, if each passes the test as it did
pub counts_mapped : {X : Type 0} (test : X → Bool) (change : X → X) → ((x : X) → test (change x) ≡ test x) → (xs : List X) → count_by test (map change xs) ≡ count_by test xs
counts_mapped test change each xs =
    sums_mapped (λ x. cond (test x) 1 0) change xs ∙ sums_alike (λ x. cond (test (change x)) 1 0) (λ x. cond (test x) 1 0) (λ x. ap {B = ℕ} (λ b. cond b 1 0) (each x)) xs

pub none_counts : {X : Type 0} (test : X → Bool) → ((x : X) → test x ≡ false) → (xs : List X) → count_by test xs ≡ 0
none_counts test each [] = refl
none_counts test each (x ∷ xs) = omega (arith, sum_by-cons (λ x. cond (test x) 1 0) x xs, ap {B = ℕ} (λ b. cond b 1 0) (each x), none_counts test each xs)

and_true_left : (a b : Bool) → (a && b) ≡ true → a ≡ true
and_true_left true b e = refl
and_true_left false b e = e

and_true_right : (a b : Bool) → (a && b) ≡ true → b ≡ true
and_true_right true b e = e
and_true_right false b e = absurd cc

flag_is : (a b : Bool) → same_flag a b ≡ true → a ≡ b
flag_is true b e = sym e
flag_is false true e = absurd cc
flag_is false false e = refl

id_is : (a b : Id) → same_id a b ≡ true → a ≡ b
id_is a b e =
    let home = eqb-true a.home b.home (and_true_left (a.home == b.home) (a.num == b.num) e) in
    let num = eqb-true a.num b.num (and_true_right (a.home == b.home) (a.num == b.num) e) in
    ap (λ (x : ℕ). record { home = x; num = a.num }) home ∙ ap (λ (x : ℕ). record { home = b.home; num = x }) num

-- participants that are called alike are the same
pub called_is : (a b : Called) → same_called a b ≡ true → a ≡ b
called_is a b e =
    let id = id_is a.id b.id (and_true_left (same_id a.id b.id) ((a.member == b.member) && same_flag a.of_end b.of_end) e) in
    let rest = and_true_right (same_id a.id b.id) ((a.member == b.member) && same_flag a.of_end b.of_end) e in
    let member = eqb-true a.member b.member (and_true_left (a.member == b.member) (same_flag a.of_end b.of_end) rest) in
    let end = flag_is a.of_end b.of_end (and_true_right (a.member == b.member) (same_flag a.of_end b.of_end) rest) in
    ap (λ (x : Id). record { id = x; member = a.member; of_end = a.of_end }) id
    ∙ ap (λ (x : ℕ). record { id = b.id; member = x; of_end = a.of_end }) member
    ∙ ap (λ (x : Bool). record { id = b.id; member = b.member; of_end = x }) end

number_self : (a : ℕ) → (a == a) ≡ true
number_self a = grind arith

flag_self : (a : Bool) → same_flag a a ≡ true
flag_self true = refl
flag_self false = refl

both_true : (a b : Bool) → a ≡ true → b ≡ true → (a && b) ≡ true
both_true true b e h = h
both_true false b e h = absurd cc

pub called_self : (a : Called) → same_called a a ≡ true
called_self a =
    both_true (same_id a.id a.id) _ (both_true (a.id.home == a.id.home) _ (number_self a.id.home) (number_self a.id.num))
    (both_true (a.member == a.member) _ (number_self a.member) (flag_self a.of_end))

-- a place that a search returns is in the list, and the element there passes
pub record IsFoundAt {X : Type 0} (test : X → Bool) (from : ℕ) (xs : List X) (place : ℕ) (d : X) : Type 0 where
  pub behind : ℕ
  pub is : place ≡ from + behind
  pub within : behind < length xs
  pub passes : test (get_or xs behind d) ≡ true

found_later : {X : Type 0} (test : X → Bool) (from place : ℕ) (x : X) (xs : List X) (d : X) → IsFoundAt test (from + 1) xs place d → IsFoundAt test from (x ∷ xs) place d
found_later test from place x xs d later = record {
  behind = suc later.behind;
  is = omega (arith, later.is);
  within = omega (arith, later.within);
  passes = later.passes;
}

pub found_in : {X : Type 0} (test : X → Bool) (from place : ℕ) (xs : List X) (d : X) → position_from test from xs ≡ Some place → IsFoundAt test from xs place d
found_in test from place [] d e = absurd cc
found_in test from place (x ∷ xs) d e =
    elim (test x) as (λ b. test x ≡ b → cond b (Some from) (position_from test (from + 1) xs) ≡ Some place → IsFoundAt test from (x ∷ xs) place d) [
      | true ↦ λ is e. let same : from ≡ place = cc in record { behind = zero; is = omega arith; within = omega arith; passes = is }
      | false ↦ λ is e. found_later test from place x xs d (found_in test (from + 1) place xs d e)
    ] refl e

-- after a filter no more elements pass than before; as many, if no dropped element passes
pub filter_below : {X : Type 0} (test p : X → Bool) (xs : List X) → count_by test (filter p xs) ≤ count_by test xs
filter_below test p xs = omega (arith, sum_by-filter_both p (λ x. not (p x)) (λ x. refl) (λ x. cond (test x) 1 0) xs)

pub filter_keeps : {X : Type 0} (test p : X → Bool) → ((x : X) → p x ≡ false → test x ≡ false) → (xs : List X) → count_by test (filter p xs) ≡ count_by test xs
filter_keeps test p drops [] = refl
filter_keeps test p drops (x ∷ xs) =
    let rest = filter_keeps test p drops xs in
    elim (p x) as (λ b. p x ≡ b → count_by test (cond b (x ∷ filter p xs) (filter p xs)) ≡ count_by test (x ∷ xs)) [
      | true ↦ λ is. omega (arith, sum_by-cons (λ x. cond (test x) 1 0) x xs, sum_by-cons (λ x. cond (test x) 1 0) x (filter p xs), rest)
      | false ↦ λ is. omega (arith, sum_by-cons (λ x. cond (test x) 1 0) x xs, ap {B = ℕ} (λ b. cond b 1 0) (drops x is), rest)
    ] refl

pub none_left : {X : Type 0} (xs : List X) → length xs ≡ 0 → xs ≡ []
none_left [] e = refl
none_left (x ∷ xs) e = absurd (omega (arith, e))

-- a sum over what a filter keeps is within two sums, if each kept element is; and the sum over all
-- is within that over what it keeps and another sum, if each dropped element is
pub filter_within : {X : Type 0} (f g h : X → ℕ) (p : X → Bool) → ((x : X) → p x ≡ true → f x ≤ g x + h x) → (xs : List X) → sum_by f (filter p xs) ≤ sum_by g xs + sum_by h xs
filter_within f g h p each [] = omega arith
filter_within f g h p each (x ∷ xs) =
    let rest = filter_within f g h p each xs in
    elim (p x) as (λ b. p x ≡ b → sum_by f (cond b (x ∷ filter p xs) (filter p xs)) ≤ sum_by g (x ∷ xs) + sum_by h (x ∷ xs)) [
      | true ↦ λ is. omega (arith, sum_by-cons f x (filter p xs), sum_by-cons g x xs, sum_by-cons h x xs, each x is, rest)
      | false ↦ λ is. omega (arith, sum_by-cons g x xs, sum_by-cons h x xs, rest)
    ] refl

pub filter_leaves : {X : Type 0} (f g : X → ℕ) (p : X → Bool) → ((x : X) → p x ≡ false → f x ≤ g x) → (xs : List X) → sum_by f xs ≤ sum_by f (filter p xs) + sum_by g xs
filter_leaves f g p each [] = omega arith
filter_leaves f g p each (x ∷ xs) =
    let rest = filter_leaves f g p each xs in
    elim (p x) as (λ b. p x ≡ b → sum_by f (x ∷ xs) ≤ sum_by f (cond b (x ∷ filter p xs) (filter p xs)) + sum_by g (x ∷ xs)) [
      | true ↦ λ is. omega (arith, sum_by-cons f x (filter p xs), sum_by-cons f x xs, sum_by-cons g x xs, rest)
      | false ↦ λ is. omega (arith, sum_by-cons f x xs, sum_by-cons g x xs, each x is, rest)
    ] refl

pub none_summed : {X : Type 0} (f : X → ℕ) → ((x : X) → f x ≡ 0) → (xs : List X) → sum_by f xs ≡ 0
none_summed f each [] = refl
none_summed f each (x ∷ xs) = omega (arith, sum_by-cons f x xs, each x, none_summed f each xs)
