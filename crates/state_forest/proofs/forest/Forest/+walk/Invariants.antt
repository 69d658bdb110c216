use Rattle.std.proofs.Common.{◌≡◌, ◌+◌, ◌*◌, ◌≤◌, None, drop, length}
use Rattle.state_forest.specs.Shape.{found_at}
use Rattle.state_forest.specs.Walks.{last_of, pending_within}
use Rattle.state_forest.proofs.forest.Forest.+walk.Given as goal

abbrev pub decreases-last_pending : goal.decreases-last_pending
decreases-last_pending l = 2 * l.levels + 1

abbrev pub decreases-pending_in : goal.decreases-pending_in
decreases-pending_in l = 2 * l.levels

-- nothing is found at the last members
abbrev pub invariant-last_pending-down : goal.invariant-last_pending-down
invariant-last_pending-down l =
    (l.left ≤ length l.members) × (last_of (pending_within l.levels (found_at l.self.home l.self.records) l.number) (l.left + 1) (drop l.left l.members) ≡ None)

abbrev pub decreases-last_pending-down : goal.decreases-last_pending-down
decreases-last_pending-down l = l.left
