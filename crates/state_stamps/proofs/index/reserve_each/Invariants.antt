use Rattle.std.proofs.Common.{◌≤◌, ◌<◌, ℕ}
use Rattle.state_stamps.specs.Indexes.{AreReserved, at_place}
use Rattle.state_stamps.proofs.index.reserve_each.Given as goal

-- the lists so far have the room, and the others are as they were
abbrev pub invariant-loop-place : goal.invariant-loop-place
invariant-loop-place l = record {
  kept : AreReserved 0 l.initial.origins.items l.origins.items;
  room : (k : ℕ) → k < l.place → l.more ≤ (at_place l.origins.items k).spare;
}
