use Rattle.std.proofs.Common.{◌≡◌, ◌≤◌, ◌++◌, drop, length}
use Rattle.std.specs.Prelude.{filter}
use Rattle.node_replication.specs.Spreads.{is_uncopied}
use Rattle.node_replication.proofs.mark.uncopied.Given as goal

-- together with those that are left, these are all
abbrev pub invariant-loop-mark : goal.invariant-loop-mark
invariant-loop-mark l =
    (length l.left.items ≤ l.mark-index) × (l.left.items ++ filter (is_uncopied l.others) (drop l.mark-index l.mark-items) ≡ filter (is_uncopied l.others) l.marks.items)
