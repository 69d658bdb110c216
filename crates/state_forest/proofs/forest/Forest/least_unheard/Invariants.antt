use Rattle.std.proofs.Common.{◌≡◌}
use Rattle.state_forest.specs.Said.{least_unheard_of}
use Rattle.state_forest.specs.Shape.{found_at}
use Rattle.state_forest.proofs.forest.Forest.least_unheard.Given as goal

-- no record so far is to be told
abbrev pub invariant-loop-kept : goal.invariant-loop-kept
invariant-loop-kept l =
    let at = found_at l.self.home l.self.records in
    least_unheard_of at l.above.num l.kept-iterator ≡ least_unheard_of at l.above.num l.self.records
