use Rattle.std.proofs.Common.{◌≡◌}
use Rattle.state_forest.specs.Said.{first_overdue}
use Rattle.state_forest.specs.Shape.{found_at}
use Rattle.state_forest.proofs.forest.Forest.first_overdue.Given as goal

-- no record so far is overdue
abbrev pub invariant-loop-kept : goal.invariant-loop-kept
invariant-loop-kept l =
    first_overdue l.self.home (found_at l.self.home l.self.records) l.now l.kept-iterator
    ≡ first_overdue l.self.home (found_at l.self.home l.self.records) l.now l.self.records
