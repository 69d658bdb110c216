-- What is put and removed when another node's records are taken: only what changes, each once.
use Rattle.std.specs.Prelude.{◌≡◌, ◌⊎◌, ◌&&◌, ℕ, Bool, true, false, Option, Some, None, List, filter, is_none, is_some, map}
use Rattle.std.specs.List.{AllByRecursion}
use Rattle.std.specs.List.Sorted.{IsStrictlyIncreasing}
use Rattle.state_ids.specs.Ids.{Id}
use Rattle.state_forest.specs.declared.record.Record.{Record}
use Rattle.state_forest.specs.Forests.{AreOf, id_of}
use Rattle.state_forest.specs.RecordMerges.{brought, is_gone}
use Rattle.state_forest.specs.Shape.{found_at}

-- What is put for an LRA, by the record that is held and the record that is to be kept, if any: the
-- one to be kept, if it isn't the one that is held. Nothing is put if they are the same, or if none
-- is to be kept (this relates all three, since no definition tests equality, and the match is
-- complete without an answer)
abbrev pub IsPut : (held kept put : Option Record) → Type 0
IsPut held kept (Some r) = (kept ≡ Some r) × (held ≡ Some r → ⊥)
IsPut held kept None = (kept ≡ None) ⊎ (kept ≡ held)

-- the other node has no record of this record's LRA, and no longer holds it
abbrev pub is_lost : (home told : ℕ) → Option (List ℕ) → (theirs : List Record) → Record → Bool
is_lost home told held theirs r = is_none (found_at home theirs r.num) && is_gone told held r.num

-- the LRAs of these records that are lost
abbrev pub ids_lost : (home told : ℕ) → Option (List ℕ) → (theirs records : List Record) → List Id
ids_lost home told held theirs records = map id_of (filter (is_lost home told held theirs) records)

-- The changes of a home's records. The records that are put are in order, each once, and none is
-- there unchanged. The LRAs that are removed are in order, each once. Each of them has a record
-- there, and none that is put
pub record AreOnlyChanges (home : ℕ) (own : List Record) (removed : List Id) (put : List Record) : Type 0 where
  pub order : AreOf home put
  pub others : AllByRecursion (λ r. found_at home own r.num ≡ Some r → ⊥) put
  pub homes : AllByRecursion (λ l. l.home ≡ home) removed
  pub rising : IsStrictlyIncreasing (map (λ l. l.num) removed)
  pub there : AllByRecursion (λ l. is_some (found_at home own l.num) ≡ true) removed
  pub apart : AllByRecursion (λ l. found_at home put l.num ≡ None) removed

-- What is told of an LRA by a node whose record is `theirs` to a receiver whose record is `own`:
-- the node's record, or nothing if that would change nothing
abbrev pub IsTold : (own theirs told : Option Record) → Type 0
IsTold own theirs told = (told ≡ theirs) ⊎ ((told ≡ None) × (brought false own theirs ≡ own))
