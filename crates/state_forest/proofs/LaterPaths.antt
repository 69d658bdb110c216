-- the lexicographic order of paths
use Rattle.std.proofs.Common.{◌≡◌, ◌<◌, ◌||◌, ◌&&◌, ◌==◌, ℕ, List, [], ◌∷◌, refl, Bool, true, false, arith, nat_lt}
use Rattle.std.proofs.lemmas.Bool.Decides.{nat_tests}
use Rattle.state_facts.specs.Duties.{is_later}

pub later_asymmetric : (p q : List ℕ) → is_later p q ≡ true → is_later q p ≡ false
later_asymmetric [] q e = absurd cc
later_asymmetric (x ∷ p) [] e = refl
later_asymmetric (x ∷ p) (y ∷ q) e = by (is_later p q) (is_later q p) (later_asymmetric p q) e
  where
    by : (b c : Bool) → (b ≡ true → c ≡ false) → (nat_lt y x || ((x == y) && b)) ≡ true → (nat_lt x y || ((y == x) && c)) ≡ false
    by true true h e = absurd (let wrong : true ≡ false = h refl in cc)
    by true false h e = grind (arith, nat_tests, e)
    by false true h e = grind (arith, nat_tests, e)
    by false false h e = grind (arith, nat_tests, e)

pub not_later_self : (p : List ℕ) → is_later p p ≡ true → ⊥
not_later_self p e = let no : is_later p p ≡ false = later_asymmetric p p e in cc

-- the first number of a path
abbrev pub head_of : List ℕ → ℕ
head_of [] = 0
head_of (x ∷ p) = x

pub head_later : (p q : List ℕ) → head_of q < head_of p → is_later p q ≡ true
head_later [] q h = absurd (omega (arith, h))
head_later (x ∷ p) [] h = refl
head_later (x ∷ p) (y ∷ q) h = let less : nat_lt y x ≡ true = grind (arith, nat_tests, h) in rw less refl

-- the order of paths with the same first number is that of what follows
pub same_head : (i : ℕ) (p q : List ℕ) → is_later (i ∷ p) (i ∷ q) ≡ is_later p q
same_head i p q =
    let no : nat_lt i i ≡ false = grind (arith, nat_tests) in
    let yes : (i == i) ≡ true = grind (arith, nat_tests) in
    rw (no, yes) refl
