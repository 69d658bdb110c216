-- among the elements that pass a test, one that no other is later than
use Rattle.std.proofs.Common.{◌≡◌, ◌⊎◌, inl, inr, ◌||◌, ◌&&◌, ◌==◌, ℕ, List, [], ◌∷◌, refl, sym, ap, ◌∙◌, Bool, true, false, arith, nat_lt}
use Rattle.std.proofs.lemmas.Bool.Decides.{nat_tests}
use Rattle.state_facts.specs.Duties.{is_later}
use Rattle.state_facts.specs.Lists.{In}

pub later_self : (p : List ℕ) → is_later p p ≡ false
later_self [] = refl
later_self (x ∷ p) = by (is_later p p) (later_self p)
  where
    by : (b : Bool) → b ≡ false → (nat_lt x x || ((x == x) && b)) ≡ false
    by true e = absurd cc
    by false e = grind (arith, nat_tests)

-- a path that is later than a later one is later
pub later_goes : (p q r : List ℕ) → is_later p q ≡ true → is_later q r ≡ true → is_later p r ≡ true
later_goes [] q r e f = absurd cc
later_goes (x ∷ p) [] r e f = absurd cc
later_goes (x ∷ p) (y ∷ q) [] e f = refl
later_goes (x ∷ p) (y ∷ q) (z ∷ r) e f = by (is_later p q) (is_later q r) (is_later p r) (later_goes p q r) e f
  where
    by : (a b c : Bool) → (a ≡ true → b ≡ true → c ≡ true) → (nat_lt y x || ((x == y) && a)) ≡ true → (nat_lt z y || ((y == z) && b)) ≡ true → (nat_lt z x || ((x == z) && c)) ≡ true
    by true true true h e f = grind (arith, nat_tests, e, f)
    by true true false h e f = absurd (let wrong : false ≡ true = h refl refl in cc)
    by true false true h e f = grind (arith, nat_tests, e, f)
    by true false false h e f = grind (arith, nat_tests, e, f)
    by false true true h e f = grind (arith, nat_tests, e, f)
    by false true false h e f = grind (arith, nat_tests, e, f)
    by false false true h e f = grind (arith, nat_tests, e, f)
    by false false false h e f = grind (arith, nat_tests, e, f)

-- x passes, and no element that passes is later
pub record IsLast {X : Type 0} (passes : X → Bool) (path : X → List ℕ) (xs : List X) (x : X) : Type 0 where
  pub there : In x xs
  pub own : passes x ≡ true
  pub none : (y : X) → In y xs → passes y ≡ true → is_later (path y) (path x) ≡ false

abbrev pub HasLast : {X : Type 0} → (X → Bool) → (X → List ℕ) → List X → Type 0
HasLast {X} passes path xs = ((x : X) × IsLast passes path xs x) ⊎ ((y : X) → In y xs → passes y ≡ false)

pub last_of_all : {X : Type 0} (passes : X → Bool) (path : X → List ℕ) (xs : List X) → HasLast passes path xs
last_of_all passes path [] = inr (λ y m. absurd m)
last_of_all {X} passes path (x ∷ xs) = by (passes x) refl (last_of_all passes path xs)
  where
    clash : (b : Bool) → b ≡ true → b ≡ false → ⊥
    clash true e f = cc
    clash false e f = cc

    -- x is the only one that passes
    alone : passes x ≡ true → ((y : X) → In y xs → passes y ≡ false) → (y : X) → In y (x ∷ xs) → passes y ≡ true → is_later (path y) (path x) ≡ false
    alone e none y (inl s) t = ap (λ (z : X). is_later (path z) (path x)) s ∙ later_self (path x)
    alone e none y (inr m) t = absurd (clash (passes y) t (none y m))

    -- x is later than the last of the others
    beyond : (z : X) → IsLast passes path xs z → is_later (path x) (path z) ≡ true → (y : X) → In y (x ∷ xs) → passes y ≡ true → is_later (path y) (path x) ≡ false
    beyond z last later y (inl s) t = ap (λ (w : X). is_later (path w) (path x)) s ∙ later_self (path x)
    beyond z last later y (inr m) t = test (is_later (path y) (path x)) refl
      where
        test : (b : Bool) → is_later (path y) (path x) ≡ b → is_later (path y) (path x) ≡ false
        test false f = f
        test true f = absurd (clash (is_later (path y) (path z)) (later_goes (path y) (path x) (path z) f later) (last.none y m t))

    -- x is not later
    before : (z : X) → IsLast passes path xs z → is_later (path x) (path z) ≡ false → (y : X) → In y (x ∷ xs) → passes y ≡ true → is_later (path y) (path z) ≡ false
    before z last not_later y (inl s) t = ap (λ (w : X). is_later (path w) (path z)) s ∙ not_later
    before z last not_later y (inr m) t = last.none y m t

    still : passes x ≡ false → (z : X) → IsLast passes path xs z → (y : X) → In y (x ∷ xs) → passes y ≡ true → is_later (path y) (path z) ≡ false
    still e z last y (inl s) t = absurd (clash (passes x) (ap passes (sym s) ∙ t) e)
    still e z last y (inr m) t = last.none y m t

    neither : passes x ≡ false → ((y : X) → In y xs → passes y ≡ false) → (y : X) → In y (x ∷ xs) → passes y ≡ false
    neither e none y (inl s) = ap passes s ∙ e
    neither e none y (inr m) = none y m

    best : passes x ≡ true → (z : X) → IsLast passes path xs z → (b : Bool) → is_later (path x) (path z) ≡ b → HasLast passes path (x ∷ xs)
    best e z last true f = inl (x, record { there = inl refl; own = e; none = beyond z last f })
    best e z last false f = inl (z, record { there = inr last.there; own = last.own; none = before z last f })

    by : (b : Bool) → passes x ≡ b → HasLast passes path xs → HasLast passes path (x ∷ xs)
    by true e (inl last) = best e last.0 last.1 (is_later (path x) (path last.0)) refl
    by true e (inr none) = inl (x, record { there = inl refl; own = e; none = alone e none })
    by false e (inl last) = inl (last.0, record { there = inr last.1.there; own = last.1.own; none = still e last.0 last.1 })
    by false e (inr none) = inr (neither e none)
