-- When records stand for a set of facts.
use Rattle.std.specs.Prelude.{◌≡◌, ◌≤◌, ℕ, Bool, List, [], ◌∷◌, true, Some, None, Result, Ok, Err, if◌then◌else◌, find}
use Rattle.std.specs.List.{AllByRecursion}
use Rattle.state_ids.specs.Ids.{Id}
use Rattle.state_facts.specs.declared.fact.Body.TheVariants.{Join}
use Rattle.state_facts.specs.declared.fact.Fact.{Fact}
use Rattle.state_facts.specs.Links.{Links}
use Rattle.state_facts.specs.declared.refusal.Refusal.{Refusal}
use Rattle.state_facts.specs.declared.refusal.Refusal.TheVariants.{NotHeld}
use Rattle.state_facts.specs.Sets.{is_held, is_begun, parent_of, depth, gives_number, member_number, NamesEarlier}
use Rattle.state_forest.specs.declared.forest.TheConstants.{MAX_DEPTH}
use Rattle.state_forest.specs.declared.record.Record.{Record}
use Rattle.state_forest.specs.Records.{record_of}
use Rattle.state_forest.specs.Forests.{is_of}
use Rattle.state_facts.specs.Lists.{In}

-- parents come before what is nested in them, and are in the same set
pub record IsWhole (S : List Fact) : Type 0 where
  pub nested : AllByRecursion NamesEarlier S
  pub parents : (l p : Id) → is_begun S l ≡ true → parent_of S l ≡ Some p → is_begun S p ≡ true

-- the records of a home are those of its LRAs that the set holds
abbrev pub Stands : ℕ → ℕ → List Fact → List Record → Type 0
Stands nodes home S records = (l : Id) → l.home ≡ home → find (is_of l) records ≡ (if is_held S l then Some (record_of nodes S l) else None)

-- the answer if the LRA is held, otherwise a refusal
abbrev pub answered : {X : Type 0} → Bool → X → Result X Refusal
answered held x = if held then Ok x else Err NotHeld

-- each fact has an origin and a number of its own
abbrev pub AreOnce : List Fact → Type 0
AreOnce [] = Unit {0}
AreOnce (f ∷ S) = AllByRecursion (λ g. f.origin ≡ g.origin → f.num ≡ g.num → ⊥) S × AreOnce S

-- member numbers are given by an LRA's home, and in order
pub record IsSeated (S : List Fact) : Type 0 where
  pub once : AreOnce S
  pub givers : (f : Fact) (l : Id) → In f S → gives_number l f.body ≡ true → f.origin ≡ l.home
  pub numbers : (f : Fact) (l : Id) (m : ℕ) (links : Links) → In f S → f.body ≡ Join l m links → m ≡ member_number S l f.num

-- no LRA is nested deeper than 8
pub record IsNested (S : List Fact) : Type 0 where
  pub once : AreOnce S
  pub shallow : (l : Id) → is_begun S l ≡ true → depth S l ≤ MAX_DEPTH
