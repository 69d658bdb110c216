use Rattle.std.proofs.Common.{◌≡◌, ◌++◌}
use Rattle.state_forest.specs.RecordMerges.{held_numbers}
use Rattle.state_forest.specs.OnlyChanges.{ids_lost}
use Rattle.state_forest.proofs.merging.all_gone.Given as goal

-- the LRAs so far, and those of the records that are left
abbrev pub invariant-loop-record : goal.invariant-loop-record
invariant-loop-record l =
    let those = ids_lost l.other.records.home l.told (held_numbers l.other.held) l.other.records.records in
    l.removed.items ++ those l.record-iterator ≡ those l.fn.own
