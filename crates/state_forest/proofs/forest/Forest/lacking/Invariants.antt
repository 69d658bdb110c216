use Rattle.std.proofs.Common.{◌≡◌}
use Rattle.state_forest.proofs.TakenRecords.{IsBringing, IsToldTo}
use Rattle.state_forest.proofs.forest.Forest.lacking.Given as goal

-- what is left is still to be told
abbrev pub invariant-loop-heard : goal.invariant-loop-heard
invariant-loop-heard l = record {
  home : l.news.home ≡ l.self.home;
  telling : IsBringing (IsToldTo l.self.home l.self.records) l.self.home l.other.records l.heard-iterator l.news.records;
}
