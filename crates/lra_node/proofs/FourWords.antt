-- A list of four words.
use Rattle.std.proofs.Common.{◌≡◌, ◌≤◌, ◌<◌, ◌^◌, ◌⊎◌, inl, inr, ℕ, List, [], ◌∷◌, ap, ◌∙◌, sym, get_or, length, map, arith}
use Rattle.std.specs.Fmt.{decimal}
use Rattle.lra_node.specs.Arguments.{AskServer}
use Rattle.std.proofs.lemmas.Fmt.{decimal_injective}

-- a list with four elements is these four
pub four : {X : Type 0} (xs : List X) (x y z w : X) → 4 ≤ length xs → length xs < 5 → x ≡ get_or xs 0 x → y ≡ get_or xs 1 y → z ≡ get_or xs 2 z → w ≡ get_or xs 3 w → xs ≡ x ∷ y ∷ z ∷ w ∷ []
four [] x y z w low high e f g h = absurd (omega (arith, low))
four (a ∷ []) x y z w low high e f g h = absurd (omega (arith, low))
four (a ∷ b ∷ []) x y z w low high e f g h = absurd (omega (arith, low))
four (a ∷ b ∷ c ∷ []) x y z w low high e f g h = absurd (omega (arith, low))
four (a ∷ b ∷ c ∷ d ∷ []) x y z w low high e f g h =
    ap (λ k. k ∷ b ∷ c ∷ d ∷ []) (sym e) ∙ ap (λ k. x ∷ k ∷ c ∷ d ∷ []) (sym f) ∙ ap (λ k. x ∷ y ∷ k ∷ d ∷ []) (sym g) ∙ ap (λ k. x ∷ y ∷ z ∷ k ∷ []) (sym h)
four (a ∷ b ∷ c ∷ d ∷ k ∷ xs) x y z w low high e f g h = absurd (omega (arith, high))

-- what they are seen as is these three words and one more
pub all_words : {X : Type 0} (f : X → List ℕ) (xs : List X) (x y z w : X) (p q r : List ℕ) → xs ≡ x ∷ y ∷ z ∷ w ∷ [] → f x ≡ p → f y ≡ q → f z ≡ r → map f xs ≡ p ∷ q ∷ r ∷ f w ∷ []
all_words f xs x y z w p q r all e g h =
    ap (map f) all ∙ ap (λ k. k ∷ f y ∷ f z ∷ f w ∷ []) e ∙ ap (λ k. p ∷ k ∷ f z ∷ f w ∷ []) g ∙ ap (λ k. p ∷ q ∷ k ∷ f w ∷ []) h

-- a number out of range is none in it
out_of_range : (n port : ℕ) → n ≡ port → 1024 ≤ port → port ≤ 65528 → (n < 1024) ⊎ ((1024 ≤ n) × (65528 < n)) → ⊥
out_of_range n port same low high (inl below) = omega (arith, same, low, below)
out_of_range n port same low high (inr (_, above)) = omega (arith, same, high, above)

-- a third word is one number, so words with a port out of range ask for no server
pub asks_none : {X : Type 0} (f : X → List ℕ) (xs : List X) (x y z w : X) (n : ℕ) → xs ≡ x ∷ y ∷ z ∷ w ∷ [] → f z ≡ decimal n → n < 2 ^ 16 → (n < 1024) ⊎ ((1024 ≤ n) × (65528 < n)) → (nodes port : ℕ) (folder : List ℕ) → AskServer (map f xs) nodes port folder → ⊥
asks_none f xs x y z w n all is small out nodes port folder (node, low, high, asked) =
    let third : f z ≡ decimal port = ap (λ l. get_or l 2 []) (sym (ap (map f) all) ∙ asked) in
    let same : n ≡ port = decimal_injective n port (omega (arith, small)) (omega (arith, high)) (sym is ∙ third) in
    out_of_range n port same low high out
