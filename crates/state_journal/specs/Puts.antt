-- Putting a record behind those of its home.
use Rattle.std.specs.Prelude.{◌≡◌, ◌≤◌, ◌<◌, ◌++◌, ◌∷◌, [], ℕ, List, length}
use Rattle.std.specs.List.{AllByRecursion}
use Rattle.state_forest.specs.declared.merging.Told.{Told}
use Rattle.state_forest.specs.declared.record.Record.{Record}
use Rattle.theory_history.specs.Merging.{AreToldFrom}
use Rattle.state_journal.specs.LraRows.{told_at}

-- the record is put behind those of one home
pub record IsPutLast (kept : Record) (old new : Told) : Type 0 where
  pub home : new.records.home ≡ old.records.home
  pub last : AllByRecursion (λ (q : Record). q.num < kept.num) old.records.records
  pub records : new.records.records ≡ old.records.records ++ kept ∷ []

-- the record is put so among those of all homes
pub record IsPut (kept : Record) (old new : List Told) : Type 0 where
  pub told : AreToldFrom 1 new
  pub count : length new ≡ length old
  pub last : AllByRecursion (λ (q : Record). q.num < kept.num) (told_at old kept.home)
  pub here : told_at new kept.home ≡ told_at old kept.home ++ kept ∷ []
  pub others : (home : ℕ) → 1 ≤ home → ¬ (home ≡ kept.home) → told_at new home ≡ told_at old home
