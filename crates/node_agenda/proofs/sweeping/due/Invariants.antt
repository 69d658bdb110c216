use Rattle.std.proofs.Common.{◌≡◌, drop}
use Rattle.node_agenda.specs.Sweeps.{first_due}
use Rattle.node_agenda.proofs.sweeping.due.Given as goal

-- the first of those that are left is the first of all
abbrev pub invariant-loop-root : goal.invariant-loop-root
invariant-loop-root l = first_due l.keep l.now (drop l.root-index l.fn.ended) ≡ first_due l.keep l.now l.fn.ended
