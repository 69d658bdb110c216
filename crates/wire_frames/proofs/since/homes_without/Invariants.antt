use Rattle.std.proofs.Common.{◌≡◌, map, take}
use Rattle.wire_frames.specs.Sending.{part_of, part_without}
use Rattle.wire_frames.proofs.since.homes_without.Given as goal

-- the homes so far are told
abbrev pub invariant-loop-home : goal.invariant-loop-home
invariant-loop-home l = map part_of l.told.items ≡ map (part_without l.base l.purges) (take l.home-index l.homes)
