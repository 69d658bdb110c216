use Rattle.std.proofs.Common.{◌≡◌, length}
use Rattle.state_forest.proofs.MemberMerges.{merged_to}
use Rattle.state_forest.proofs.merging.merge_members.Given as goal

-- the first members are merged
abbrev pub invariant-loop-place : goal.invariant-loop-place
invariant-loop-place l = (l.kept ≡ merged_to l.place l.fn.kept l.other) × (length l.kept ≡ length l.fn.kept)
