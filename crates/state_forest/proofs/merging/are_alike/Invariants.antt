use Rattle.state_forest.proofs.MemberMerges.{SwapTo}
use Rattle.state_forest.proofs.merging.are_alike.Given as goal

-- for the first members the order of merging doesn't matter
abbrev pub invariant-loop-place : goal.invariant-loop-place
invariant-loop-place l = SwapTo l.place l.kept l.other
