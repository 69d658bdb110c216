-- the element with a property whose path is the greatest
use Rattle.std.proofs.Common.{◌≡◌, ◌⊎◌, inl, inr, ◌<◌, ◌≤◌, ◌+◌, ◌-◌, ℕ, suc, List, [], ◌∷◌, refl, true, arith, Option, Some, None, length, slice_get}
use Rattle.std.specs.Option.{option_map_or}
use Rattle.state_facts.specs.Duties.{is_later}
use Rattle.state_forest.specs.Walks.{last_of}
use Rattle.state_forest.proofs.LaterPaths.{head_later, head_of}

-- y has the property, and all others that have it come before y; `None` if no element has the
-- property
abbrev pub IsGreatest : {X : Type 0} → (X → Type 0) → (X → List ℕ) → Option X → Type 0
IsGreatest {X} P path None = (x : X) → P x → ⊥
IsGreatest {X} P path (Some y) = P y × ((x : X) → P x → (x ≡ y) ⊎ (is_later (path y) (path x) ≡ true))

-- the same element is the greatest for another property and other paths, if these agree
pub greatest_alike : {X : Type 0} (P Q : X → Type 0) (path way : X → List ℕ) (o : Option X) → ((x : X) → P x → Q x) → ((x : X) → Q x → P x) → ((x y : X) → P x → P y → is_later (path y) (path x) ≡ true → is_later (way y) (way x) ≡ true) → IsGreatest P path o → IsGreatest Q way o
greatest_alike P Q path way None there back later h = λ x q. h x (back x q)
greatest_alike P Q path way (Some y) there back later h =
    (there y h.0, λ x q. elim (h.1 x (back x q)) [ inl same ↦ inl same | inr less ↦ inr (later x y (back x q) h.0 less) ])

-- x has the property, and its path begins with the number i
abbrev pub Headed : {X : Type 0} → (X → Type 0) → (X → List ℕ) → ℕ → X → Type 0
Headed P path i x = P x × (head_of (path x) ≡ i)

abbrev pub HeadedFrom : {X : Type 0} → (X → Type 0) → (X → List ℕ) → ℕ → X → Type 0
HeadedFrom P path i x = P x × (i ≤ head_of (path x))

one_more : {X : Type 0} (P : X → Type 0) (path : X → List ℕ) (i : ℕ) (first rest : Option X) → IsGreatest (Headed P path i) path first → IsGreatest (HeadedFrom P path (i + 1)) path rest → IsGreatest (HeadedFrom P path i) path (option_map_or (λ y. Some y) rest first)
one_more P path i None None h none = λ x p. elim (split i (head_of (path x)) p.1) [ inl at ↦ h x (p.0, at) | inr more ↦ none x (p.0, more) ]
  where
    split : (a b : ℕ) → a ≤ b → (b ≡ a) ⊎ (a + 1 ≤ b)
    split a b e = grind (arith, e)
one_more P path i (Some y) None h none = (
  (h.0.0, omega (arith, h.0.1)),
  λ x p. elim (split i (head_of (path x)) p.1) [ inl at ↦ h.1 x (p.0, at) | inr more ↦ absurd (none x (p.0, more)) ],
)
  where
    split : (a b : ℕ) → a ≤ b → (b ≡ a) ⊎ (a + 1 ≤ b)
    split a b e = grind (arith, e)
one_more P path i first (Some y) h rest = (
  (rest.0.0, omega (arith, rest.0.1)),
  λ x p. elim (split i (head_of (path x)) p.1) [ inl at ↦ inr (head_later (path y) (path x) (omega (arith, at, rest.0.1))) | inr more ↦ rest.1 x (p.0, more) ],
)
  where
    split : (a b : ℕ) → a ≤ b → (b ≡ a) ⊎ (a + 1 ≤ b)
    split a b e = grind (arith, e)

-- the last element found in a list, if the elements are numbered and each finds the greatest whose
-- path begins with its number
pub greatest_last : {X M : Type 0} (P : X → Type 0) (path : X → List ℕ) (found : ℕ → M → Option X) (i : ℕ) (ms : List M) → ((k : ℕ) (m : M) → i ≤ k → slice_get ms (k - i) ≡ Some m → IsGreatest (Headed P path k) path (found k m)) → ((x : X) → P x → head_of (path x) < length ms + i) → IsGreatest (HeadedFrom P path i) path (last_of found i ms)
greatest_last P path found i [] each bound = λ x p. omega (arith, p.1, bound x p.0)
greatest_last {X} {M} P path found i (m ∷ ms) each bound =
    one_more P path i (found i m) (last_of found (i + 1) ms) (each i m (omega arith) here) (greatest_last P path found (i + 1) ms further (λ x p. omega (arith, bound x p)))
  where
    here : slice_get (m ∷ ms) (i - i) ≡ Some m
    here = let none : i - i ≡ 0 = omega arith in rw none refl

    further : (k : ℕ) (n : M) → i + 1 ≤ k → slice_get ms (k - (i + 1)) ≡ Some n → IsGreatest (Headed P path k) path (found k n)
    further k n less at =
        let place : k - i ≡ suc (k - (i + 1)) = omega (arith, less) in
        each k n (omega (arith, less)) (rw place at)
