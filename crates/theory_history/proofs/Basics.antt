-- Small facts that several files use.
use Rattle.std.proofs.Common.{◌≡◌, ◌⊎◌, inl, inr, ◌≤◌, ◌<◌, ◌==◌, ◌&&◌, ◌||◌, ◌++◌, ℕ, zero, suc, List, [], ◌∷◌, refl, Bool, true, false, arith, Option, Some, None, length, length-append, nat_le, nat_lt}
use Rattle.std.proofs.lemmas.Bool.Decides.{nat_tests}
use Rattle.state_ids.specs.Ids.{Id, same_id}
use Rattle.state_ids.specs.Fronts.{count, is_covered}
use Rattle.state_ids.specs.States.{greater}
use Rattle.state_ids.specs.declared.outcome.Outcome.{Outcome}
use Rattle.state_ids.specs.declared.outcome.Outcome.TheVariants.{Busy, Done, Failed}
use Rattle.state_ids.specs.declared.outcome.Verdict.{Verdict}
use Rattle.state_facts.specs.declared.fact.Body.{Body}
use Rattle.state_facts.specs.declared.fact.Body.TheVariants.{Begin, Join, Leave, Decide, Report, Forgot, Told, Purge}
use Rattle.state_facts.specs.declared.fact.Fact.{Fact}
use Rattle.state_facts.specs.declared.refusal.Refusal.{Refusal}
use Rattle.state_facts.specs.Lists.{In}
use Rattle.state_facts.specs.Refusals.{first, unless}
use Rattle.state_facts.specs.Sets.{begins, chain_within, gives_number, is_begun, is_decision, is_held}
use Rattle.state_forest.specs.Records.{is_about, is_named, nodes_to}
use Rattle.state_forest.proofs.Bools.{and_left}

-- the elements of the first list are elements of both lists put together
pub in_left : {X : Type 0} (xs ys : List X) (x : X) → In x xs → In x (xs ++ ys)
in_left [] ys x m = absurd m
in_left (y ∷ xs) ys x (inl s) = inl s
in_left (y ∷ xs) ys x (inr m) = inr (in_left xs ys x m)

-- and so are those of the second
pub in_right : {X : Type 0} (xs ys : List X) (x : X) → In x ys → In x (xs ++ ys)
in_right [] ys x m = m
in_right (y ∷ xs) ys x m = inr (in_right xs ys x m)

-- an LRA that is held was begun
pub held_begun : (S : List Fact) (l : Id) → is_held S l ≡ true → is_begun S l ≡ true
held_begun S l e = and_left (is_begun S l) _ e

-- what a passed test for equal numbers means
pub equal_from : (a b : ℕ) → (a == b) ≡ true → a ≡ b
equal_from a b e = grind (arith, nat_tests)

-- a number equals itself
pub equal_itself : (a : ℕ) → (a == a) ≡ true
equal_itself a = grind (arith, nat_tests)

-- the greater of an outcome and `None` is the outcome
pub greater_none : (o : Option Outcome) → greater o None ≡ o
greater_none None = refl
greater_none (Some Busy) = refl
greater_none (Some Done) = refl
greater_none (Some Failed) = refl

-- if the first refusal of a list is `None`, none of them refuses
pub open_first : (o : Option Refusal) (rest : List (Option Refusal)) → first (o ∷ rest) ≡ None → (o ≡ None) × (first rest ≡ None)
open_first None rest e = (refl, e)
open_first (Some r) rest e = absurd cc

-- if a test refuses nothing, it holds
pub passed : (b : Bool) (r : Refusal) → unless b r ≡ None → b ≡ true
passed true r e = refl
passed false r e = absurd cc

-- a number is at most another, or more
pub at_most : (a b : ℕ) → (a ≤ b) ⊎ (b < a)
at_most a b = by (nat_le a b) refl
  where
    less : (a b : ℕ) → nat_le a b ≡ true → a ≤ b
    less a b e = grind (arith, nat_tests)

    more : (a b : ℕ) → nat_le a b ≡ false → b < a
    more a b e = grind (arith, nat_tests)

    by : (t : Bool) → nat_le a b ≡ t → (a ≤ b) ⊎ (b < a)
    by true e = inl (less a b e)
    by false e = inr (more a b e)

-- what a passed test for less means
pub less_by : (a b : ℕ) → nat_lt a b ≡ true → a < b
less_by a b e = grind (arith, nat_tests)

-- two numbers are either the same or not
pub same_or_not : (a b : ℕ) → (a ≡ b) ⊎ (a ≡ b → ⊥)
same_or_not a b = by (a == b) refl
  where
    same : (a b : ℕ) → (a == b) ≡ true → a ≡ b
    same a b e = grind (arith, nat_tests)

    other : (a b : ℕ) → a ≡ b → (a == b) ≡ true
    other a b e = grind (arith, nat_tests)

    by : (t : Bool) → (a == b) ≡ t → (a ≡ b) ⊎ (a ≡ b → ⊥)
    by true e = inl (same a b e)
    by false e = inr (λ s. let yes : (a == b) ≡ true = other a b s in cc)

-- the list of the nodes up to n has n elements
pub length_nodes : (n : ℕ) → length (nodes_to n) ≡ n
length_nodes zero = refl
length_nodes (suc n) = omega (arith, length-append (nodes_to n) (suc n ∷ []), length_nodes n)

-- an LRA is in its own chain
pub own_in_chain : (S : List Fact) (n : ℕ) (l : Id) → In l (chain_within n S l)
own_in_chain S zero l = inl refl
own_in_chain S (suc n) l = inl refl

-- two tests that hold
pub both_true : (a b : Bool) → a ≡ true → b ≡ true → (a && b) ≡ true
both_true a b e f = rw (e, f) refl

-- a covered number is within the count
pub covered_le : (v : List ℕ) (l : Id) → is_covered v l ≡ true → l.num ≤ count v l.home
covered_le v l e = grind (arith, nat_tests)

-- a test is false if its being true gives a contradiction
pub false_from : (b : Bool) → (b ≡ true → ⊥) → b ≡ false
false_from true h = absurd (h refl)
false_from false h = refl

-- a fact that gives a number of l names l
pub giver_names : (l : Id) (body : Body) → gives_number l body ≡ true → is_named l body ≡ true
giver_names l (Begin p d) e = e
giver_names l (Join q n links) e = e
giver_names l (Decide q w) e = absurd cc
giver_names l (Report q n act o) e = absurd cc
giver_names l (Forgot q n) e = absurd cc
giver_names l (Told q n) e = absurd cc
giver_names l (Leave q n) e = absurd cc
giver_names l (Purge q) e = absurd cc

-- so does a fact that decides l
pub decision_names : (l : Id) (v : Verdict) (body : Body) → is_decision l v body ≡ true → is_named l body ≡ true
decision_names l v (Decide q w) e = and_left (same_id q l) _ e
decision_names l v (Begin p d) e = absurd cc
decision_names l v (Join q n links) e = absurd cc
decision_names l v (Report q n act o) e = absurd cc
decision_names l v (Forgot q n) e = absurd cc
decision_names l v (Told q n) e = absurd cc
decision_names l v (Leave q n) e = absurd cc
decision_names l v (Purge q) e = absurd cc

-- a fact that names an LRA is about it
pub about_named : (l : Id) (f : Fact) → is_named l f.body ≡ true → is_about l f ≡ true
about_named l f e = by (begins l f)
  where
    by : (b : Bool) → (b || is_named l f.body) ≡ true
    by true = refl
    by false = e
