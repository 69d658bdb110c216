-- Rows that stand for a view, and how a patch changes them.
use Rattle.std.specs.Prelude.{◌≡◌, ◌≤◌, ◌<◌, ◌^◌, ◌↔◌, IsTrue, ℕ, zero, suc, ℤ, pos, List, Some, None, length}
use Rattle.std.specs.List.{AllByRecursion}
use Rattle.sqlite.specs.State.{State, HasCleanDisk}
use Rattle.sqlite.specs.Tree.{Trees}
use Rattle.state_ids.specs.Ids.{Id}
use Rattle.state_ids.specs.Fronts.{count}
use Rattle.state_forest.specs.declared.record.Record.{Record}
use Rattle.state_forest.specs.Forests.{id_of}
use Rattle.theory_history.specs.Views.{View, IsInOrder, record_at}
use Rattle.theory_history.specs.Changes.{Change}
use Rattle.wire_frames.specs.declared.version.Version.{Version}
use Rattle.wire_frames.specs.declared.version.Version.TheVariants.{Two}
use Rattle.wire_frames.specs.Encoding.{record_text, record_text_as}
use Rattle.wire_frames.specs.Versions.{version_mark}
use Rattle.state_journal.specs.Tables.{signed, HasFront, HasLra, IsFormed, IsJournal, SetsFronts, SetsLra}
use Rattle.state_journal.specs.Turns.{InTurn}

-- the view has this record
abbrev pub IsHeld : View → Record → Type 0
IsHeld view r = record_at view (id_of r) ≡ Some r

-- A view as a replica has it: for each node a count, a last purge, and records in order, with
-- numbers of 64 bits
pub record IsReplicaView (view : View) : Type 0 where
  pub purges : length view.purges ≡ length view.front
  pub homes : length view.records ≡ length view.front
  pub order : IsInOrder view
  pub numbers : (r : Record) → IsHeld view r → r.num < 2 ^ 64

-- the row of a node in `front`: the count of its facts, and the number of its last purge
abbrev pub IsOfNode : View → (node : ℕ) → (held purged : ℤ) → Type 0
IsOfNode view node held purged = (node ≤ length view.front) × (held ≡ signed (count view.front node)) × (purged ≡ signed (count view.purges node))

-- the row of an origin in `front`: for origin 0 the node's own number, and the journal's version
abbrev pub IsFrontOf : Version → (me : ℕ) → View → (origin : ℕ) → (held purged : ℤ) → Type 0
IsFrontOf v me view zero held purged = (held ≡ pos me) × (purged ≡ pos (version_mark v))
IsFrontOf v me view (suc i) held purged = IsOfNode view (suc i) held purged

-- the row in `lra` of a record that the view has: its home, its number and its bytes in the
-- journal's version
pub record IsRecordOf (v : Version) (view : View) (home : ℕ) (num : ℤ) (body : List ℕ) : Type 0 where
  pub kept : Record
  pub held : IsHeld view kept
  pub at_home : home ≡ kept.home
  pub numbered : num ≡ signed kept.num
  pub encoded : body ≡ record_text_as v kept

-- The rows stand for this view of the node in a version: `front` has exactly the view's counts and
-- last purges, `lra` exactly its records
pub record StandsAs (v : Version) (me : ℕ) (db : Trees) (view : View) : Type 0 where
  pub formed : IsFormed db
  pub whole : IsReplicaView view
  pub front : (origin : ℕ) (held purged : ℤ) → HasFront db origin held purged ↔ IsFrontOf v me view origin held purged
  pub lra : (home : ℕ) (num : ℤ) (body : List ℕ) → HasLra db home num body ↔ IsRecordOf v view home num body

-- the rows stand for a view in version 2, which is what nodes write; one definition over the
-- version serves both
abbrev pub Stands : ℕ → Trees → View → Type 0
Stands me db view = StandsAs Two me db view

-- while its disk is clean and it is open, the store is a journal, and its rows stand for this view
abbrev pub KeepsView : ℕ → State → View → Type 0
KeepsView me s view = HasCleanDisk s → IsTrue s.is_open → IsJournal s × Stands me s.now.trees view

-- the patch counts the nodes of the view, and its records are of these nodes
pub record IsPatchOf (view : View) (change : Change) : Type 0 where
  pub front : length change.front ≡ length view.front
  pub purges : length change.purges ≡ length view.front
  pub homes : AllByRecursion (λ r. r.home ≤ length view.front) change.records

-- the row of an LRA is deleted
abbrev pub RemovesRecord : Id → Trees → Trees → Type 0
RemovesRecord l old new = (1 ≤ l.home) × (l.num < 2 ^ 64) × SetsLra l.home (signed l.num) None old new

-- the row of a record is written
abbrev pub PutsRecord : Record → Trees → Trees → Type 0
PutsRecord r old new = (1 ≤ r.home) × (r.num < 2 ^ 64) × SetsLra r.home (signed r.num) (Some (record_text r)) old new

-- first what is removed is deleted, then what is put is written, and last the front and the last
-- purges
pub record Patches (change : Change) (old new : Trees) : Type 0 where
  pub without : Trees
  pub with_records : Trees
  pub removed : InTurn RemovesRecord change.removed old without
  pub put : InTurn PutsRecord change.records without with_records
  pub front : SetsFronts change.front change.purges (length change.front) with_records new
