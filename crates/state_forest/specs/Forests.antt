-- The records of one home.
use Rattle.std.specs.Prelude.{◌≡◌, ◌<◌, ◌&&◌, ◌==◌, ℕ, List, [], ◌∷◌, Bool}
use Rattle.std.specs.List.{AllByRecursion}
use Rattle.state_ids.specs.Ids.{Id}
use Rattle.state_forest.specs.declared.record.Record.{Record}

-- a home, the records of its LRAs, and how many more records fit without asking for memory; what
-- records say of a set doesn't depend on that number
pub record HomeRecords : Type 0 where
  pub home : ℕ
  pub records : List Record
  pub spare : ℕ

-- the records are in order of increasing numbers
abbrev pub IsAscending : List Record → Type 0
IsAscending [] = Unit {0}
IsAscending (r ∷ rs) = AllByRecursion (λ q. r.num < q.num) rs × IsAscending rs

-- all records are of the home, each once and in order
pub record AreOf (home : ℕ) (records : List Record) : Type 0 where
  pub homes : AllByRecursion (λ r. r.home ≡ home) records
  pub ascending : IsAscending records

-- the LRA of a record
abbrev pub id_of : Record → Id
id_of r = record { home = r.home; num = r.num }

-- the record is the record of l
abbrev pub is_of : Id → Record → Bool
is_of l r = (r.home == l.home) && (r.num == l.num)
