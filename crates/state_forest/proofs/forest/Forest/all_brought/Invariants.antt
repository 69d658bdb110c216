use Rattle.std.proofs.Common.{◌≡◌}
use Rattle.state_forest.proofs.TakenRecords.{IsBringing, IsRight}
use Rattle.state_forest.proofs.forest.Forest.all_brought.Given as goal

-- what is left is still to be brought
abbrev pub invariant-loop-heard : goal.invariant-loop-heard
invariant-loop-heard l = record {
  home : l.records.home ≡ l.self.home;
  bringing : IsBringing (IsRight l.self.home l.mine l.self.records) l.self.home l.fn.other.records l.heard-iterator l.records.records;
}
