-- Whether two frames are equal, part by part.
use Rattle.std.specs.Prelude.{◌&&◌, ℕ, Bool, Option, List}
use Rattle.std.specs.Cmp.Lexicographic.{pointwise}
use Rattle.std.specs.Option.{option_eq}
use Rattle.std.specs.Str.{bytes_eq}
use Rattle.state_ids.specs.contracts.front.FrontPartialEq.TheImpl as of_fronts
use Rattle.state_forest.specs.contracts.record.RecordPartialEq.TheImpl as of_records
use Rattle.state_forest.specs.declared.record.Record.{Record}
use Rattle.wire_frames.specs.Frames.{Frame}

abbrev pub same_lives : List (Option (List ℕ)) → List (Option (List ℕ)) → Bool
same_lives = pointwise (option_eq bytes_eq)

abbrev pub same_records : List (List Record) → List (List Record) → Bool
same_records = pointwise (pointwise of_records.ghosts.eq)

abbrev pub same_frame : Frame → Frame → Bool
same_frame a b =
    of_fronts.ghosts.eq a.base b.base && (of_fronts.ghosts.eq a.front b.front && (of_fronts.ghosts.eq a.purges b.purges
    && (same_lives a.live b.live && same_records a.records b.records)))
