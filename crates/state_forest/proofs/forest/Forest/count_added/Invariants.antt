use Rattle.std.proofs.Common.{◌≡◌, ◌+◌, ◌≤◌, filter, length}
use Rattle.state_forest.specs.RecordMerges.{without}
use Rattle.state_forest.proofs.ChangedCounts.{is_added}
use Rattle.state_forest.proofs.forest.Forest.count_added.Given as goal

-- the records added so far, and those to be added of the records that are left
abbrev pub invariant-loop-record : goal.invariant-loop-record
invariant-loop-record l =
    let added = is_added l.self.home (without l.removed l.self.records) in
    record {
      few : l.count + length l.record-iterator ≤ length l.added.records;
      counted : l.count + length (filter added l.record-iterator) ≡ length (filter added l.added.records);
    }
