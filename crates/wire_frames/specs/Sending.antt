-- What is told of a home since a base, and when what is told is what a frame has.
use Rattle.std.specs.Prelude.{◌≡◌, ℕ, Option, Some, None, List, [], filter, if◌then◌else◌, map, nat_lt}
use Rattle.state_ids.specs.Fronts.{count}
use Rattle.state_forest.specs.declared.merging.Told.{Told}
use Rattle.state_forest.specs.declared.record.Record.{Record}
use Rattle.state_forest.specs.Forests.{HomeRecords}
use Rattle.state_forest.specs.RecordMerges.{held_numbers}
use Rattle.theory_history.specs.Merging.{Telling, told_held, told_records}
use Rattle.theory_history.specs.Views.{records_at}
use Rattle.wire_frames.specs.Frames.{Frame, is_beyond, live_at}

-- a home, the numbers of its LRAs that are held, if they are told, and some of its records
pub record HomePart : Type 0 where
  pub home : ℕ
  pub live : Option (List ℕ)
  pub records : List Record

abbrev pub part_of : Told → HomePart
part_of told = record { home = told.records.home; live = held_numbers told.held; records = told.records.records }

-- what a node that knows these last purges tells of a home since a base
abbrev pub part_since : (base purges : List ℕ) → HomeRecords → HomePart
part_since base purges home =
    record {
      home = home.home;
      live = if nat_lt (count base home.home) (count purges home.home) then Some (map (λ (r : Record). r.num) home.records) else None;
      records = filter (λ r. is_beyond base r.stamps) home.records;
    }

-- the same without records
abbrev pub part_without : (base purges : List ℕ) → HomeRecords → HomePart
part_without base purges home = record { home = home.home; live = (part_since base purges home).live; records = [] }

-- the frame with a base and with what is told of each home
abbrev pub frame_told : (base : List ℕ) → Telling → Frame
frame_told base telling =
    record {
      base = base;
      front = telling.front;
      purges = telling.purges;
      live = map (λ (told : Told). held_numbers told.held) telling.homes;
      records = map (λ (told : Told). told.records.records) telling.homes;
    }

-- what is told is what the frame has
pub record IsToldBy (frame : Frame) (telling : Telling) : Type 0 where
  pub front : telling.front ≡ frame.front
  pub purges : telling.purges ≡ frame.purges
  pub records : (home : ℕ) → told_records telling home ≡ records_at frame.records home
  pub live : (home : ℕ) → told_held telling home ≡ live_at frame.live home
