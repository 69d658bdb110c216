use Rattle.std.proofs.Common.{◌≡◌, ◌-◌, ◌==◌}
use Rattle.std.specs.List.{list_any}
use Rattle.state_forest.specs.declared.record.Record.{Record}
use Rattle.state_forest.specs.Said.{is_under_at, records_up}
use Rattle.state_forest.specs.Shape.{found_at}
use Rattle.state_forest.proofs.forest.Forest.is_under.Given as goal

-- the LRA is met if it is among those that are left
abbrev pub invariant-loop : goal.invariant-loop
invariant-loop l = let at = found_at l.self.home l.self.records in is_under_at at l.above l.num ≡ list_any (λ (r : Record). r.num == l.above) (records_up (8 - l.counter) at l.at)
