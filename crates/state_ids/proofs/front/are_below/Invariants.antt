use Rattle.std.proofs.Common.{◌≤◌, ◌<◌, ℕ, get_or}
use Rattle.state_ids.proofs.front.are_below.Given as goal

-- at none of the first places is the count above the other's
abbrev pub invariant-loop-place : goal.invariant-loop-place
invariant-loop-place l = (k : ℕ) → k < l.place → get_or l.counts k 0 ≤ get_or l.others k 0
