use Rattle.std.proofs.Common.{◌≡◌, ◌++◌, filter}
use Rattle.std.specs.List.{AllByRecursion}
use Rattle.wire_frames.specs.Frames.{is_beyond}
use Rattle.wire_frames.proofs.scan.records_since.Given as goal

-- the records so far that have a stamp beyond the base, followed by those of the records that are
-- left
abbrev pub invariant-loop-record : goal.invariant-loop-record
invariant-loop-record l =
    let newer = filter (λ r. is_beyond l.base r.stamps) in
    record {
      home : l.since.home ≡ l.home.home;
      newer : l.since.records ++ newer l.record-iterator ≡ newer l.home.records;
      left : AllByRecursion (λ r. r.home ≡ l.home.home) l.record-iterator;
    }
