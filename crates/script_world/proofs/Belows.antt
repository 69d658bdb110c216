-- A front is either below another or not.
use Rattle.std.proofs.Common.{◌≡◌, ◌⊎◌, inl, inr, ◌≤◌, ◌<◌, ◌-◌, ℕ, zero, suc, List, [], ◌∷◌, refl, Bool, true, false, arith, get_or, length, nat_le}
use Rattle.std.proofs.lemmas.Bool.Decides.{nat_tests}
use Rattle.state_ids.specs.Fronts.{IsBelow, count}

none_past : (v : List ℕ) (i : ℕ) → length v ≤ i → get_or v i 0 ≡ 0
none_past [] i h = refl
none_past (a ∷ v) zero h = absurd (omega (arith, h))
none_past (a ∷ v) (suc i) h = none_past v i (omega (arith, h))

-- either no count up to a node is greater, or the count at some node is
up_to : (v w : List ℕ) (n : ℕ) → ((node : ℕ) → node < n → count v node ≤ count w node) ⊎ ((node : ℕ) × (count w node < count v node))
up_to v w zero = inl (λ node less. absurd (omega (arith, less)))
up_to v w (suc n) = elim (up_to v w n) [
  | inl all ↦ by all (nat_le (count v n) (count w n)) refl
  | inr some ↦ inr some
]
  where
    by : ((node : ℕ) → node < n → count v node ≤ count w node) → (t : Bool) → nat_le (count v n) (count w n) ≡ t
        → ((node : ℕ) → node < suc n → count v node ≤ count w node) ⊎ ((node : ℕ) × (count w node < count v node))
    by all true e = let here : count v n ≤ count w n = grind (arith, nat_tests) in inl (λ node less. at node less here (nat_le n node) refl)
      where
        at : (node : ℕ) → node < suc n → count v n ≤ count w n → (t : Bool) → nat_le n node ≡ t → count v node ≤ count w node
        at node less here true f = let back : n ≤ node = grind (arith, nat_tests) in let same : node ≡ n = omega (arith, back, less) in rw same here
        at node less here false f = let before : node < n = grind (arith, nat_tests) in all node before
    by all false e = let more : count w n < count v n = grind (arith, nat_tests) in inr (n, more)

pub below_or_not : (v w : List ℕ) → IsBelow v w ⊎ (IsBelow v w → ⊥)
below_or_not v w = elim (up_to v w (suc (length v))) [
  | inl all ↦ inl (λ node. by all node (nat_le node (length v)) refl)
  | inr some ↦ inr (λ below. let le = below some.0 in absurd (omega (arith, le, some.1)))
]
  where
    by : ((node : ℕ) → node < suc (length v) → count v node ≤ count w node) → (node : ℕ) → (t : Bool) → nat_le node (length v) ≡ t → count v node ≤ count w node
    by all node true e = let le : node ≤ length v = grind (arith, nat_tests) in all node (omega (arith, le))
    by all node false e =
        let more : length v < node = grind (arith, nat_tests) in
        let none : count v node ≡ 0 = none_past v (node - 1) (omega (arith, more)) in
        omega (arith, none)
