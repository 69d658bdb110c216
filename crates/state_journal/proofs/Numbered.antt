-- Elements that are numbered, and rise by their numbers, stand at the places of their numbers.
use Rattle.std.proofs.Common.{◌≡◌, inl, inr, ℕ, zero, suc, ◌+◌, ◌<◌, ◌≤◌, List, [], ◌∷◌, length, Some, refl, ap, arith}
use Rattle.std.specs.Prelude.{slice_get}
use Rattle.sqlite.specs.Tree.{IsAscending}
use Rattle.sqlite_rules.specs.Lists.{Has}
use Rattle.sqlite_rules.proofs.ListLemmas.{all_has}

module _ {X : Type 0} (number : X → ℕ) where
  pub record IsWith (xs : List X) (n : ℕ) : Type 0 where
    pub x : X
    pub has : Has xs x
    pub is : number x ≡ n

  -- `count` elements, numbered from the first number on, which rise by their numbers
  pub record AreNumberedFrom (first count : ℕ) (xs : List X) : Type 0 where
    pub rise : IsAscending (λ a b. number a < number b) xs
    pub within : (x : X) → Has xs x → (first ≤ number x) × (number x < first + count)
    pub each : (n : ℕ) → first ≤ n → n < first + count → IsWith xs n

  -- the first element has the first number
  first_is : (first count : ℕ) (x : X) (xs : List X) → AreNumberedFrom first (suc count) (x ∷ xs) → number x ≡ first
  first_is first count x xs are = by (are.each first (omega arith) (omega arith))
    where
      by : IsWith (x ∷ xs) first → number x ≡ first
      by w = at w.x w.has w.is
        where
          at : (y : X) → Has (x ∷ xs) y → number y ≡ first → number x ≡ first
          at y (inl same) is = omega (arith, ap number same, is)
          at y (inr later) is = absurd (omega (arith, all_has (λ z. number x < number z) xs y are.rise.0 later, is, (are.within x (inl refl)).0))

  rest : (first count : ℕ) (x : X) (xs : List X) → AreNumberedFrom first (suc count) (x ∷ xs) → AreNumberedFrom (first + 1) count xs
  rest first count x xs are =
      let own = first_is first count x xs are in
      record {
        rise = are.rise.1;
        within = λ y has. let after = all_has (λ z. number x < number z) xs y are.rise.0 has in (omega (arith, own, after), omega (arith, (are.within y (inr has)).1));
        each = λ n low high. let w = are.each n (omega (arith, low)) (omega (arith, high)) in later n (omega (arith, own, low)) w.x w.has w.is;
      }
    where
      later : (n : ℕ) → number x < n → (y : X) → Has (x ∷ xs) y → number y ≡ n → IsWith xs n
      later n above y (inl same) is = absurd (omega (arith, ap number same, is, above))
      later n above y (inr has) is = record { x = y; has = has; is = is }

  -- there are `count` of them
  pub count_is : (first count : ℕ) (xs : List X) → AreNumberedFrom first count xs → length xs ≡ count
  count_is first zero [] are = refl
  count_is first (suc count) [] are = absurd (are.each first (omega arith) (omega arith)).has
  count_is first zero (x ∷ xs) are = let w = are.within x (inl refl) in absurd (omega (arith, w.0, w.1))
  count_is first (suc count) (x ∷ xs) are = let more = count_is (first + 1) count xs (rest first count x xs are) in omega (arith, more)

  pub record IsAtPlace (xs : List X) (place n : ℕ) : Type 0 where
    pub x : X
    pub has : Has xs x
    pub is : number x ≡ n
    pub there : slice_get xs place ≡ Some x

  pub at_place : (first count : ℕ) (xs : List X) → AreNumberedFrom first count xs → (place : ℕ) → place < count → IsAtPlace xs place (first + place)
  at_place first zero xs are place low = absurd (omega (arith, low))
  at_place first (suc count) [] are place low = absurd (are.each first (omega arith) (omega arith)).has
  at_place first (suc count) (x ∷ xs) are zero low = record { x = x; has = inl refl; is = omega (arith, first_is first count x xs are); there = refl }
  at_place first (suc count) (x ∷ xs) are (suc place) low =
      let it = at_place (first + 1) count xs (rest first count x xs are) place (omega (arith, low)) in
      record { x = it.x; has = inr it.has; is = omega (arith, it.is); there = it.there }
