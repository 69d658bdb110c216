use Rattle.std.proofs.Common.{◌≡◌, ◌++◌, Bool, drop, map, take}
use Rattle.wire_callbacks.specs.declared.duty.Duty.{Duty}
use Rattle.node_schedule.specs.Named.{AllKept}
use Rattle.node_schedule.specs.Slips.{taken_back}
use Rattle.node_schedule.proofs.schedule.recall_each.Given as goal

-- the slips so far are taken back, and the others are as they were
abbrev pub invariant-loop-slip : goal.invariant-loop-slip
invariant-loop-slip l = record {
  exact : l.slips ≡ map taken_back (take l.slip-index l.fn.slips) ++ drop l.slip-index l.fn.slips;
  kept : (test : Duty → Bool) → AllKept test l.fn.slips → AllKept test l.slips;
}
