use Rattle.std.proofs.Common.{◌≡◌, map, take}
use Rattle.wire_frames.specs.Sending.{part_of, part_since}
use Rattle.wire_frames.proofs.scan.homes_since.Given as goal

-- the homes so far are told
abbrev pub invariant-loop-home : goal.invariant-loop-home
invariant-loop-home l = map part_of l.told.items ≡ map (part_since l.base l.purges) (take l.home-index l.homes)
