use Rattle.std.proofs.Common.{◌≡◌, drop}
use Rattle.std.specs.List.{list_any}
use Rattle.node_replication.specs.Spreads.{is_in_time}
use Rattle.node_replication.proofs.mark.is_any_in_time.Given as goal

-- one of those left is in time, if any is
abbrev pub invariant-loop-mark : goal.invariant-loop-mark
invariant-loop-mark l = list_any (is_in_time l.others l.patience l.now) (drop l.mark-index l.marks) ≡ list_any (is_in_time l.others l.patience l.now) l.marks
