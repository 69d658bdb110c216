use Rattle.std.proofs.Common.{◌≡◌, ◌≤◌, ◌<◌, ℕ, get_or}
use Rattle.wire_narayana.proofs.seal.is_same.Given as goal

-- the places so far at which they differ are counted
abbrev pub invariant-loop-place : goal.invariant-loop-place
invariant-loop-place l = (l.differ ≤ l.place) × ((l.differ ≡ 0 → (k : ℕ) → k < l.place → get_or l.one k 0 ≡ get_or l.other k 0) × (l.one ≡ l.other → l.differ ≡ 0))
