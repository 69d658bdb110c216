use Rattle.std.proofs.Common.{◌≡◌, take}
use Rattle.node_schedule.specs.Once.{slips_of}
use Rattle.node_schedule.proofs.slip.place_from.Given as goal

-- there is none from the first place up to here
abbrev pub invariant-loop-place : goal.invariant-loop-place
invariant-loop-place l = slips_of l.who (take l.place l.slips) ≡ slips_of l.who (take l.from l.slips)
