use Rattle.std.proofs.Common.{◌≡◌, drop, max}
use Rattle.node_replication.specs.Spreads.{copied_tickets, greatest}
use Rattle.node_replication.proofs.mark.covered_by.Given as goal

-- together with those that are left, this is the greatest of all
abbrev pub invariant-loop-mark : goal.invariant-loop-mark
invariant-loop-mark l =
    max l.most (greatest (copied_tickets l.others (drop l.mark-index l.marks))) ≡ max l.covered (greatest (copied_tickets l.others l.marks))
