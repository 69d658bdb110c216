-- A patch that grows home by home as what another node tells is taken.
use Rattle.std.specs.Prelude.{◌≡◌, ◌≤◌, ℕ, Option, List, ◌++◌, length, nat_le}
use Rattle.std.specs.List.{AllByRecursion}
use Rattle.state_ids.specs.Ids.{Id}
use Rattle.state_ids.specs.Fronts.{count}
use Rattle.state_forest.specs.declared.merging.Told.{Told}
use Rattle.state_forest.specs.declared.record.Record.{Record}
use Rattle.state_forest.specs.Forests.{AreOf, HomeRecords}
use Rattle.state_forest.specs.RecordMerges.{changed_by, held_numbers, is_gone, absorbed}
use Rattle.state_forest.specs.OnlyChanges.{AreOnlyChanges}
use Rattle.state_forest.specs.Shape.{AreInShape, found_at}
use Rattle.theory_history.specs.Merging.{Telling, told_held, told_records}
use Rattle.theory_history.specs.Changes.{Change, HoldsOnlyChanges, ids_of, records_of}
use Rattle.theory_history.specs.Views.{View, records_at}
use Rattle.state_replica.specs.Replicas.{count_of_home, spare_at}

-- `after` are the records of a home, in order, once what another node tells of it is taken. That
-- node counts `reach` of the home's facts, and tells the records `theirs` and that it holds the
-- numbers `held`. `own` are the records before that, at a node that counts `mine` of the home's
-- facts
pub record AreTaken (home mine reach : ℕ) (held : Option (List ℕ)) (theirs own after : List Record) : Type 0 where
  pub order : AreOf home after
  pub taken : (num : ℕ) → found_at home after num ≡ absorbed (nat_le num mine) (is_gone reach held num) (found_at home own num) (found_at home theirs num)

-- what a view's records of a home become once what is told of the home is taken
abbrev pub AreTakenAt : View → Told → (reach : ℕ) → List Record → Type 0
AreTakenAt a told reach after =
    AreTaken told.records.home (count a.front told.records.home) reach (held_numbers told.held) told.records.records
    (records_at a.records told.records.home) after

-- The change at a home, which has its shape afterwards: these LRAs are removed, and these records
-- are put in their places, each once
pub record IsChangeAt (a : View) (told : Told) (reach : ℕ) (front : List ℕ) (ids : List Id) (more : List Record) : Type 0 where
  pub some : 1 ≤ told.records.home
  pub only : AreOnlyChanges told.records.home (records_at a.records told.records.home) ids more
  pub taken : AreTakenAt a told reach (changed_by ids more (records_at a.records told.records.home))
  pub shape : AreInShape front told.records.home (changed_by ids more (records_at a.records told.records.home))

-- the patch has grown by the change at one home, and there is room for that
pub record IsGrown (a : View) (told : Told) (reach : ℕ) (homes : List HomeRecords) (old new : Change) : Type 0 where
  pub ids : List Id
  pub more : List Record
  pub is : IsChangeAt a told reach old.front ids more
  pub removed : new.removed ≡ old.removed ++ ids
  pub records : new.records ≡ old.records ++ more
  pub room : length more ≤ spare_at homes told.records.home

-- the records of a home after a patch
abbrev pub after_at : Change → View → ℕ → List Record
after_at change a home = changed_by (ids_of home change.removed) (records_of home change.records) (records_at a.records home)

-- the patch has what is taken at the homes up to k, and nothing of others
pub record IsTakenTo (a : View) (telling : Telling) (homes : List HomeRecords) (change : Change) (k : ℕ) : Type 0 where
  pub of_ids : AllByRecursion (λ l. (1 ≤ l.home) × (l.home ≤ k)) change.removed
  pub of_records : AllByRecursion (λ r. (1 ≤ r.home) × (r.home ≤ k)) change.records
  pub only : HoldsOnlyChanges a change
  pub taken : (home : ℕ) → 1 ≤ home → home ≤ k →
      AreTaken home (count a.front home) (count telling.front home) (told_held telling home) (told_records telling home)
      (records_at a.records home) (after_at change a home)
  pub shape : (home : ℕ) → 1 ≤ home → home ≤ k → AreInShape change.front home (after_at change a home)
  pub room : (home : ℕ) → 1 ≤ home → count_of_home home change.records ≤ spare_at homes home
