use Rattle.std.proofs.Common.{◌≡◌, ◌++◌, drop}
use Rattle.state_forest.proofs.page.RecordPageClone.clone.Given as goal

-- those so far, and those that are left
abbrev pub invariant-loop-record : goal.invariant-loop-record
invariant-loop-record l = l.copy ++ drop l.record-index l.self ≡ l.self
