use Rattle.std.proofs.Common.{◌≡◌, min}
use Rattle.state_ids.proofs.Pairs.{paired_to}
use Rattle.state_ids.proofs.front.lesser.Given as goal

-- the first places are met
abbrev pub invariant-loop-place : goal.invariant-loop-place
invariant-loop-place l = l.met ≡ paired_to min l.place l.counts l.others
