use Rattle.std.proofs.Common.{◌≡◌, ◌-◌}
use Rattle.state_forest.specs.Said.{records_up, wanted_by}
use Rattle.state_forest.specs.Shape.{found_at}
use Rattle.state_forest.specs.Wants.{over}
use Rattle.state_forest.proofs.forest.Forest.wanted_within.Given as goal

-- what is wanted depends on what was read and on what is left
abbrev pub invariant-loop : goal.invariant-loop
invariant-loop l = let at = found_at l.self.home l.self.records in wanted_by (records_up l.levels at l.num) ≡ over l.want (wanted_by (records_up (l.levels - l.counter) at l.at))
