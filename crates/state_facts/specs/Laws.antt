-- Notions that the laws of the definitions use.
use Rattle.std.specs.Prelude.{◌≡◌, ◌<◌, ℕ, List, [], ◌∷◌, Some}
use Rattle.state_ids.specs.Ids.{Id}
use Rattle.state_facts.specs.declared.fact.Fact.{Fact}
use Rattle.state_facts.specs.Links.{Links}
use Rattle.state_facts.specs.Lists.{In, IsInside}
use Rattle.state_facts.specs.Sets.{joined_links}

-- two lists are the same set: they have the same facts, in any order and any number of times
pub record IsSameSet (S T : List Fact) : Type 0 where
  pub there : IsInside S T
  pub back : IsInside T S

-- an origin and a number identify one fact
abbrev pub AreNumberedOnce : List Fact → Type 0
AreNumberedOnce S = (f g : Fact) → In f S → In g S → f.origin ≡ g.origin → f.num ≡ g.num → f ≡ g

-- a member number is given to only one participant
abbrev pub AreJoinedOnce : List Fact → Type 0
AreJoinedOnce S =
    (f g : Fact) (l : Id) (m : ℕ) (a b : Links) → In f S → In g S → joined_links l m f.body ≡ Some a → joined_links l m g.body ≡ Some b → a ≡ b

-- the numbers decrease along the list, and all have the same home
abbrev pub Falls : List Id → Type 0
Falls [] = Unit {0}
Falls (x ∷ xs) = FallsFrom x xs
  where
    FallsFrom : Id → List Id → Type 0
    FallsFrom x [] = Unit {0}
    FallsFrom x (y ∷ ys) = (y.home ≡ x.home) × (y.num < x.num) × FallsFrom y ys
