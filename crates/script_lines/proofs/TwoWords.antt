-- A list of two words.
use Rattle.std.proofs.Common.{◌≡◌, ◌≤◌, ◌<◌, ℕ, List, [], ◌∷◌, ap, ◌∙◌, sym, get_or, length, map, arith}

-- a list with two elements is these two
pub two : {X : Type 0} (xs : List X) (x y : X) → 2 ≤ length xs → length xs < 3 → x ≡ get_or xs 0 x → y ≡ get_or xs 1 y → xs ≡ x ∷ y ∷ []
two [] x y low high e f = absurd (omega (arith, low))
two (a ∷ []) x y low high e f = absurd (omega (arith, low))
two (a ∷ b ∷ []) x y low high e f = ap (λ k. k ∷ b ∷ []) (sym e) ∙ ap (λ k. x ∷ k ∷ []) (sym f)
two (a ∷ b ∷ c ∷ xs) x y low high e f = absurd (omega (arith, high))

-- whether the elements are read as these two words
pub both_words : {X : Type 0} (f : X → List ℕ) (xs : List X) (x y : X) (p q : List ℕ) → xs ≡ x ∷ y ∷ [] → f x ≡ p → f y ≡ q → map f xs ≡ p ∷ q ∷ []
both_words f xs x y p q all e g = ap (map f) all ∙ ap (λ k. k ∷ f y ∷ []) e ∙ ap (λ k. p ∷ k ∷ []) g
