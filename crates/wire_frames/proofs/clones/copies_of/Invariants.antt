use Rattle.std.proofs.Common.{◌≡◌, map, take}
use Rattle.wire_frames.specs.Sending.{part_of}
use Rattle.wire_frames.proofs.clones.copies_of.Given as goal

-- the homes so far are copied
abbrev pub invariant-loop-told : goal.invariant-loop-told
invariant-loop-told l = map part_of l.copies.items ≡ map part_of (take l.told-index l.homes)
