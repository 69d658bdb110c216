-- elements sorted by their homes
use Rattle.std.proofs.Common.{◌≡◌, ◌==◌, ℕ, List, [], ◌∷◌, refl, ap, ◌∙◌, Bool, true, false, arith, filter}
use Rattle.std.specs.List.{AllByRecursion}
use Rattle.state_forest.specs.declared.record.Record.{Record}
use Rattle.state_forest.specs.OnlyChanges.{AreOnlyChanges}
use Rattle.theory_history.proofs.Basics.{equal_from, equal_itself}

-- Elements of one home

-- elements that have a property have every weaker one
pub all_weaker : {X : Type 0} (P Q : X → Type 0) (xs : List X) → ((x : X) → P x → Q x) → AllByRecursion P xs → AllByRecursion Q xs
all_weaker P Q [] h all = tt
all_weaker P Q (x ∷ xs) h all = (h x all.0, all_weaker P Q xs h all.1)

equal_not : (a b : ℕ) → (a ≡ b → ⊥) → (a == b) ≡ false
equal_not a b n = by (a == b) refl
  where
    by : (c : Bool) → (a == b) ≡ c → c ≡ false
    by true e = absurd (n (equal_from a b e))
    by false e = refl

-- all elements are of this home
pub home_all : {X : Type 0} (h : X → ℕ) (home : ℕ) (xs : List X) → AllByRecursion (λ x. h x ≡ home) xs → filter (λ x. h x == home) xs ≡ xs
home_all h home [] all = refl
home_all h home (x ∷ xs) all =
    let here : (h x == home) ≡ true = ap (λ (n : ℕ). n == home) all.0 ∙ equal_itself home in
    rw here (ap (λ zs. x ∷ zs) (home_all h home xs all.1))

-- no element is of this home
pub home_none : {X : Type 0} (h : X → ℕ) (home : ℕ) (xs : List X) → AllByRecursion (λ x. h x ≡ home → ⊥) xs → filter (λ x. h x == home) xs ≡ []
home_none h home [] all = refl
home_none h home (x ∷ xs) all = let here = equal_not (h x) home all.0 in rw here (home_none h home xs all.1)

-- Home by home

-- an empty change holds only what changes
pub no_changes : (home : ℕ) (own : List Record) → AreOnlyChanges home own [] []
no_changes home own = record {
  order = record { homes = tt; ascending = tt };
  others = tt;
  homes = tt;
  rising = λ k within. absurd (omega (arith, within));
  there = tt;
  apart = tt;
}
