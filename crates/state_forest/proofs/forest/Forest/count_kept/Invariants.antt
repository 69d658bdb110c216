use Rattle.std.proofs.Common.{◌≡◌, ◌+◌, ◌≤◌, length}
use Rattle.state_forest.specs.RecordMerges.{without}
use Rattle.state_forest.proofs.forest.Forest.count_kept.Given as goal

-- the records kept so far, and those to be kept of the records that are left
abbrev pub invariant-loop-record : goal.invariant-loop-record
invariant-loop-record l = record {
  few : l.count + length l.record-iterator ≤ length l.self.records;
  counted : l.count + length (without l.removed l.record-iterator) ≡ length (without l.removed l.self.records);
}
