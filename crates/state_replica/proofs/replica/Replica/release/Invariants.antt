use Rattle.std.proofs.Common.{◌≡◌, ◌≤◌, ℕ, length}
use Rattle.state_replica.specs.Replicas.{spare_at, view_of}
use Rattle.state_replica.proofs.replica.Replica.release.Given as goal

abbrev pub invariant-loop-place : goal.invariant-loop-place
invariant-loop-place l = record {
  view : view_of l.self ≡ view_of l.fn.self;
  homes : length l.self.homes ≡ length l.fn.self.homes;
  room : (home : ℕ) → 1 ≤ home → home ≤ l.place → spare_at l.self.homes home ≤ 16;
}
