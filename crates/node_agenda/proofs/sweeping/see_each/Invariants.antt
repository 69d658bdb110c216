use Rattle.std.proofs.Common.{◌≡◌, ◌++◌, drop, map, take}
use Rattle.node_agenda.specs.Sweeps.{seen_as}
use Rattle.node_agenda.proofs.sweeping.see_each.Given as goal

-- those so far are changed, and the others are as they were
abbrev pub invariant-loop-root : goal.invariant-loop-root
invariant-loop-root l = l.ended ≡ map (seen_as l.id l.seen l.now) (take l.root-index l.fn.ended) ++ drop l.root-index l.fn.ended
