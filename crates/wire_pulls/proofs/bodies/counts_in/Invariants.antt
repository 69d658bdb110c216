use Rattle.std.proofs.Common.{◌≡◌, ◌++◌, ◌≤◌, ◌*◌, ◌-◌, length, take}
use Rattle.wire_pulls.specs.PullBodies.{counts_in}
use Rattle.wire_pulls.proofs.bodies.counts_in.Given as goal

-- the counts so far, followed by those of the rest
abbrev pub invariant-loop-place : goal.invariant-loop-place
invariant-loop-place l = record {
  all : length l.counts ≡ 8;
  there : 8 * (l.nodes - l.place) ≤ length l.rest;
  so_far : take l.place l.counts ++ counts_in (l.nodes - l.place) l.rest ≡ counts_in l.nodes l.bytes;
}
