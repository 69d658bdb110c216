-- One record by itself, as a journal keeps it: under a front, with base zero and no live list.
use Rattle.std.specs.Prelude.{◌≤◌, ◌<◌, ◌^◌, ◌==◌, ℕ, List, [], None, Result, Ok, Err, if◌then◌else◌, length, replicate}
use Rattle.state_ids.specs.declared.TheConstants.{MAX_NODES}
use Rattle.state_ids.specs.Fronts.{count}
use Rattle.state_forest.specs.declared.record.Record.{Record}
use Rattle.wire_frames.specs.declared.input.Stop.{Stop}
use Rattle.wire_frames.specs.declared.version.Version.{Version}
use Rattle.wire_frames.specs.declared.version.Version.TheVariants.{Two}
use Rattle.wire_frames.specs.FrameFields.{Rest, Read, Broken, ◌>>=◌, value_of, told_of}
use Rattle.wire_frames.specs.Grammar.{KeepsRulesIn}
use Rattle.wire_frames.specs.Rules.{Context, IsRecord, start, told_context}
use Rattle.wire_frames.specs.Reading.{read_record_at}

abbrev pub under : Version → (front : List ℕ) → Context
under v front = told_context v (replicate (length front) 0) front []

-- The record keeps the rules under this front, which has at most 8 nodes and numbers of 48 bits:
-- the record is of one of the nodes, and would keep the rules of a frame with base zero
pub record KeepsRulesUnder (front : List ℕ) (kept : Record) : Type 0 where
  pub few : length front ≤ MAX_NODES
  pub small : (node : ℕ) → count front node < 2 ^ 48
  pub some : 1 ≤ kept.home
  pub high : kept.home ≤ length front
  pub fits : KeepsRulesIn (replicate (length front) 0) front None kept

-- the record has an encoding of a version by itself
abbrev pub IsRecordUnderAs : Version → (front : List ℕ) → Record → Type 0
IsRecordUnderAs v front kept = IsRecord (under v front) start kept

-- a record, and then the end
unfoldable pub alone_at : Version → (front : List ℕ) → Rest → Read Record
alone_at v front r = do
  kept ← read_record_at (under v front) start r
  if kept.1.place == r.limit then Ok kept else Err (Broken kept.1.place kept.1.place)

-- the record that all of the bytes encode
abbrev pub record_in_as : Version → (front bytes : List ℕ) → Result Record Stop
record_in_as v front bytes = told_of (value_of (alone_at v front (record { place = 0; limit = length bytes; ahead = bytes })))

-- Version 2

abbrev pub IsRecordUnder : (front : List ℕ) → Record → Type 0
IsRecordUnder front kept = IsRecordUnderAs Two front kept
