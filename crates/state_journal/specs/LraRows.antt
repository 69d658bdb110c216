-- What the rows of `lra` say, and where they break the format.
use Rattle.std.specs.Prelude.{◌≡◌, ◌≤◌, ◌<◌, ◌-◌, ℕ, List, [], Some, length, slice_get}
use Rattle.std.specs.Option.{option_map_or}
use Rattle.sqlite.specs.declared.types.Value.TheVariants.{Blob}
use Rattle.sqlite.specs.Order.{Row, column}
use Rattle.state_facts.specs.Lists.{In}
use Rattle.state_forest.specs.declared.merging.Told.{Told}
use Rattle.state_forest.specs.declared.record.Record.{Record}
use Rattle.wire_frames.specs.declared.version.Version.{Version}
use Rattle.wire_frames.specs.OneRecord.{IsRecordUnderAs}
use Rattle.wire_frames.specs.Encoding.{record_text_as}
use Rattle.state_journal.specs.FrontRows.{number_in}

-- the row has the key of the record
pub record HasKey (cells : Row) (kept : Record) : Type 0 where
  pub home : number_in (column cells 0) ≡ Some kept.home
  pub num : number_in (column cells 1) ≡ Some kept.num

-- the row is that of this record, which keeps the rules under the front: it has the record's key
-- and its encoding in the version
pub record IsRowOf (v : Version) (front : List ℕ) (cells : Row) (kept : Record) : Type 0 where
  pub key : HasKey cells kept
  pub body : column cells 2 ≡ Blob (record_text_as v kept)
  pub rules : IsRecordUnderAs v front kept

-- the row of this record stands at this place
pub record IsRowAt (v : Version) (front : List ℕ) (rows : List Row) (place : ℕ) (kept : Record) : Type 0 where
  pub row : Row
  pub there : slice_get rows place ≡ Some row
  pub is : IsRowOf v front row kept

-- the row of a record stands at this place, behind the rows of its home with lesser numbers
pub record IsRecordRight (v : Version) (front : List ℕ) (rows : List Row) (place : ℕ) : Type 0 where
  pub kept : Record
  pub here : IsRowAt v front rows place kept
  pub order : (i : ℕ) (other : Record) → i < place → IsRowAt v front rows i other → other.home ≡ kept.home → other.num < kept.num

-- the first place where a row is wrong
pub record RecordBreaksAt (v : Version) (front : List ℕ) (rows : List Row) (place : ℕ) : Type 0 where
  pub within : place < length rows
  pub before : (i : ℕ) → i < place → IsRecordRight v front rows i
  pub breaks : ¬ IsRecordRight v front rows place

-- The first `count` rows are those of these records: each row is of one of them, and each of them
-- has a row
pub record AreRecordRows (v : Version) (front : List ℕ) (rows : List Row) (count : ℕ) (of_home : ℕ → List Record) : Type 0 where
  pub right : (i : ℕ) → i < count → IsRecordRight v front rows i
  pub each : (i : ℕ) (kept : Record) → i < count → IsRowAt v front rows i kept → (1 ≤ kept.home) × In kept (of_home kept.home)
  pub only : (home : ℕ) (kept : Record) → 1 ≤ home → In kept (of_home home) → (i : ℕ) × (i < count) × (kept.home ≡ home) × IsRowAt v front rows i kept

-- the records that are told of a home
abbrev pub told_at : List Told → ℕ → List Record
told_at homes home = option_map_or (λ (told : Told). told.records.records) (slice_get homes (home - 1)) []
