use Rattle.std.proofs.Common.{◌≡◌, ◌++◌}
use Rattle.state_forest.specs.Said.{ids_below}
use Rattle.state_forest.specs.Shape.{found_at}
use Rattle.state_forest.proofs.forest.Forest.tree.Given as goal

-- the LRAs so far, and those of the records that are left
abbrev pub invariant-loop-kept : goal.invariant-loop-kept
invariant-loop-kept l =
    let at = found_at l.self.home l.self.records in
    l.ids.items ++ ids_below at l.above.num l.kept-iterator ≡ ids_below at l.above.num l.self.records
