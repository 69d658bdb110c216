use Rattle.std.proofs.Common.{◌≡◌, ◌++◌, filter_map}
use Rattle.state_forest.specs.RecordDues.{compensation_at}
use Rattle.state_forest.specs.Shape.{found_at}
use Rattle.state_forest.proofs.forest.Forest.compensations.Given as goal

-- what was found so far, with what is under the records left, is all
abbrev pub invariant-loop-kept : goal.invariant-loop-kept
invariant-loop-kept l =
    let due = compensation_at l.self.home (found_at l.self.home l.self.records) in
    l.dues.items ++ filter_map due l.kept-iterator ≡ filter_map due l.self.records
