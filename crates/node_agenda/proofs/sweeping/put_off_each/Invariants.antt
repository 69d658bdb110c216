use Rattle.std.proofs.Common.{◌≡◌, ◌++◌, drop, map, take}
use Rattle.node_agenda.specs.Sweeps.{put_off_if}
use Rattle.node_agenda.proofs.sweeping.put_off_each.Given as goal

-- those so far are changed, and the others are as they were
abbrev pub invariant-loop-root : goal.invariant-loop-root
invariant-loop-root l = l.ended ≡ map (put_off_if l.id l.purged l.now) (take l.root-index l.fn.ended) ++ drop l.root-index l.fn.ended
