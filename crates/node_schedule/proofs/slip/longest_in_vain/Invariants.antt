use Rattle.std.proofs.Common.{◌≡◌, drop, max}
use Rattle.std.specs.Duration.{as_nanos}
use Rattle.node_schedule.specs.InVain.{longest_in_vain}
use Rattle.node_schedule.proofs.slip.longest_in_vain.Given as goal

-- the longer of the longest so far and the longest of those left is the longest of all
abbrev pub invariant-loop-place : goal.invariant-loop-place
invariant-loop-place l = max (as_nanos l.longest) (longest_in_vain l.now (drop l.place l.slips)) ≡ longest_in_vain l.now l.slips
