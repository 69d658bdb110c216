use Rattle.std.proofs.Common.{◌≡◌, ◌≤◌, ◌+◌, ◌-◌, length}
use Rattle.state_forest.specs.Said.{depth_at, records_up}
use Rattle.state_forest.specs.Shape.{found_at}
use Rattle.state_forest.proofs.forest.Forest.depth_at.Given as goal

-- the depth so far and the levels that are left
abbrev pub invariant-loop : goal.invariant-loop
invariant-loop l = record {
  climbed : l.depth ≤ l.counter;
  left : let at = found_at l.self.home l.self.records in depth_at at l.num ≡ l.depth + length (records_up (8 - l.counter) at l.at);
}
