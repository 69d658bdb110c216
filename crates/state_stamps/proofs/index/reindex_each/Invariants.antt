use Rattle.std.proofs.Common.{◌≡◌, ◌≤◌, ◌<◌, ◌+◌, ℕ, length}
use Rattle.state_stamps.specs.Indexes.{IsRestamped, at_place, stamp_at}
use Rattle.state_stamps.proofs.index.reindex_each.Given as goal

-- the lists so far are changed, and the others are as they were
abbrev pub invariant-loop-place : goal.invariant-loop-place
invariant-loop-place l = record {
  same : length l.origins.items ≡ length l.initial.origins.items;
  done : (k : ℕ) → k < l.place → IsRestamped (record { home = l.home; num = l.num }) (stamp_at l.was (k + 1)) (stamp_at l.now (k + 1)) (at_place l.initial.origins.items k) (at_place l.origins.items k);
  rest : (k : ℕ) → l.place ≤ k → at_place l.origins.items k ≡ at_place l.initial.origins.items k;
}
