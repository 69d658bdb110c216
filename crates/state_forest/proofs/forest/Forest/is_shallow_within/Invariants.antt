use Rattle.std.proofs.Common.{◌≡◌, ◌-◌}
use Rattle.state_forest.specs.Shape.{is_shallow, records_after}
use Rattle.state_forest.proofs.forest.Forest.is_shallow_within.Given as goal

-- the LRA is as shallow as the one that was reached is, for the levels that are left
abbrev pub invariant-loop : goal.invariant-loop
invariant-loop l = is_shallow l.levels l.self.home (records_after l.changes l.self) l.num ≡ is_shallow (l.levels - l.counter) l.self.home (records_after l.changes l.self) l.at
