-- What an opening reads, and where rows break the format.
use Rattle.std.specs.Prelude.{◌≡◌, ◌≤◌, ◌+◌, ◌⊎◌, ℕ, List, Some, find, length, map}
use Rattle.sqlite.specs.Order.{Row}
use Rattle.state_forest.specs.declared.merging.Told.{Told}
use Rattle.theory_history.specs.Merging.{Telling, told_records}
use Rattle.state_ids.specs.Ids.{Id}
use Rattle.state_forest.specs.declared.record.Record.{Record}
use Rattle.state_forest.specs.Forests.{is_of}
use Rattle.theory_history.specs.Views.{View, IsInOrder, records_at}
use Rattle.theory_history.specs.ViewShape.{HasShape}
use Rattle.wire_frames.specs.declared.version.Version.{Version}
use Rattle.state_journal.specs.LraRows.{AreRecordRows, RecordBreaksAt}
use Rattle.state_journal.specs.FrontRows.{AreFronts, FrontBreaksAt}

-- the rows of `front` and of `lra` are those of a view of this node, in a version
pub record AreRowsOf (v : Version) (me : ℕ) (front_rows lra_rows : List Row) (view : View) : Type 0 where
  pub fronts : AreFronts v me front_rows view.front view.purges
  pub records : AreRecordRows v view.front lra_rows (length lra_rows) (records_at view.records)
  pub homes : length view.records ≡ length view.front
  pub order : IsInOrder view

-- a row of `lra` is wrong, behind right rows of `front`
pub record LraBreaksAt (me nodes : ℕ) (front_rows lra_rows : List Row) (place : ℕ) : Type 0 where
  pub version : Version
  pub front : List ℕ
  pub purges : List ℕ
  pub right : AreFronts version me front_rows front purges
  pub counted : length front ≡ nodes
  pub at : ℕ
  pub breaks : RecordBreaksAt version front lra_rows at
  pub is : place ≡ length front_rows + at

-- all rows are right, but the view to which they belong hasn't the shape
pub record ShapeBreaksAt (me nodes : ℕ) (front_rows lra_rows : List Row) (place : ℕ) : Type 0 where
  pub version : Version
  pub view : View
  pub right : AreRowsOf version me front_rows lra_rows view
  pub counted : length view.front ≡ nodes
  pub breaks : ¬ HasShape view
  pub is : place ≡ length front_rows + length lra_rows

-- the place of the first row that breaks the format, rows of `front` first, or the count of all
-- rows if only the shape is broken
abbrev pub BreaksAt : (me nodes : ℕ) (front_rows lra_rows : List Row) (place : ℕ) → Type 0
BreaksAt me nodes front_rows lra_rows place =
    FrontBreaksAt me nodes front_rows place ⊎ (LraBreaksAt me nodes front_rows lra_rows place ⊎ ShapeBreaksAt me nodes front_rows lra_rows place)

-- the view that has exactly what is told
abbrev pub view_told : Telling → View
view_told telling = record { front = telling.front; purges = telling.purges; records = map (λ (told : Told). told.records.records) telling.homes }

-- no record has the number zero
abbrev pub AreNumbered : Telling → Type 0
AreNumbered telling = (l : Id) (r : Record) → find (is_of l) (told_records telling l.home) ≡ Some r → 1 ≤ l.num
