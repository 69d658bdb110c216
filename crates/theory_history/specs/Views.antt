-- A view: what a node keeps of its facts as records, and when it stands for a set.
use Rattle.std.specs.Prelude.{◌≡◌, ◌≤◌, ◌-◌, ◌&&◌, ◌==◌, ℕ, Bool, true, false, Option, List, [], length, map, find, get_or, if◌then◌else◌, replicate}
use Rattle.state_ids.specs.Ids.{Id}
use Rattle.state_ids.specs.Fronts.{count}
use Rattle.state_facts.specs.declared.fact.Body.{Body}
use Rattle.state_facts.specs.declared.fact.Body.TheVariants.{Purge}
use Rattle.state_facts.specs.declared.fact.Fact.{Fact}
use Rattle.state_facts.specs.Lists.{In, most}
use Rattle.state_forest.specs.declared.record.Record.{Record}
use Rattle.state_forest.specs.Forests.{AreOf, is_of}
use Rattle.state_forest.specs.Records.{nodes_to}
use Rattle.state_forest.specs.Standing.{Stands}
use Rattle.theory_history.specs.Growth.{IsSettled}

-- a front, the last purge of each home, and the records of each home in order of their numbers
pub record View : Type 0 where
  pub front : List ℕ
  pub purges : List ℕ
  pub records : List (List Record)

-- the records of a home, where homes are numbered from 1
abbrev pub records_at : List (List Record) → ℕ → List Record
records_at records home = get_or records (home - 1) []

-- the records of each home are of it, each once and in order
abbrev pub IsInOrder : View → Type 0
IsInOrder view = (home : ℕ) → 1 ≤ home → home ≤ length view.front → AreOf home (records_at view.records home)

-- the record of l
abbrev pub record_at : View → Id → Option Record
record_at view l = find (is_of l) (records_at view.records l.home)

abbrev pub is_purge_fact : Body → Bool
is_purge_fact (Purge root) = true
is_purge_fact _ = false

-- the number of a node's last purge, 0 if there is none
abbrev pub purge_number : List Fact → ℕ → ℕ
purge_number S node = most (λ f. if (f.origin == node) && is_purge_fact f.body then f.num else 0) S

-- the set has exactly the facts that the front counts
pub record IsCounted (S : List Fact) (front : List ℕ) : Type 0 where
  pub some : (f : Fact) → In f S → (1 ≤ f.origin) × (1 ≤ f.num)
  pub counted : (f : Fact) → In f S → f.num ≤ count front f.origin
  pub all : (node num : ℕ) → 1 ≤ node → 1 ≤ num → num ≤ count front node → (f : Fact) × In f S × (f.origin ≡ node) × (f.num ≡ num)

-- the records of a home are those of its LRAs that the set holds, each once and in order
pub record AreRecords (nodes : ℕ) (S : List Fact) (home : ℕ) (records : List Record) : Type 0 where
  pub order : AreOf home records
  pub stands : Stands nodes home S records

-- the view is that of the set
pub record StandsFor (S : List Fact) (view : View) : Type 0 where
  pub front : IsCounted S view.front
  pub purges : view.purges ≡ map (purge_number S) (nodes_to (length view.front))
  pub homes : length view.records ≡ length view.front
  pub records : (home : ℕ) → 1 ≤ home → home ≤ length view.front → AreRecords (length view.front) S home (records_at view.records home)

-- the view of no facts
abbrev pub empty_view : ℕ → View
empty_view nodes = record { front = replicate nodes 0; purges = replicate nodes 0; records = replicate nodes [] }

-- P holds for each settled set that the view stands for
abbrev pub OfItsSet : View → (List Fact → Type 0) → Type 0
OfItsSet view P = (S : List Fact) → IsSettled S → StandsFor S view → P S
