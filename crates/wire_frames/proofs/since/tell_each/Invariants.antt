use Rattle.std.proofs.Common.{take}
use Rattle.wire_frames.specs.Telling.{AreTold, is_listed}
use Rattle.wire_frames.proofs.since.tell_each.Given as goal

-- the LRAs of the entries so far are told
abbrev pub invariant-loop-entry : goal.invariant-loop-entry
invariant-loop-entry l = AreTold (is_listed (take l.entry-index l.entries)) l.homes l.fn.told.items l.told.items
