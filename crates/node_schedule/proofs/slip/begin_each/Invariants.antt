use Rattle.std.proofs.Common.{◌≡◌, ◌++◌, drop, map, take}
use Rattle.node_schedule.specs.Slips.{begun_to}
use Rattle.node_schedule.proofs.slip.begin_each.Given as goal

-- each slip so far is called if it is the one, and the others are as they were
abbrev pub invariant-loop-slip : goal.invariant-loop-slip
invariant-loop-slip l = l.slips ≡ map (begun_to l.who) (take l.slip-index l.fn.slips) ++ drop l.slip-index l.fn.slips
