use Rattle.std.proofs.Common.{◌≡◌}
use Rattle.state_forest.proofs.MemberMerges.{merged_to}
use Rattle.state_forest.proofs.lacking.all_stay.Given as goal

-- the first members stay as they are
abbrev pub invariant-loop-place : goal.invariant-loop-place
invariant-loop-place l = merged_to l.place l.kept l.other ≡ l.kept
