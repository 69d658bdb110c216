use Rattle.std.proofs.Common.{◌≡◌, max}
use Rattle.state_ids.proofs.Pairs.{paired_to}
use Rattle.state_ids.proofs.front.greater.Given as goal

-- the first places are joined
abbrev pub invariant-loop-place : goal.invariant-loop-place
invariant-loop-place l = l.joined ≡ paired_to max l.place l.counts l.others
