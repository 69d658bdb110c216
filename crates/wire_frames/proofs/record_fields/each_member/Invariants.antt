use Rattle.std.proofs.Common.{◌-◌}
use Rattle.wire_frames.specs.Rules.{next_nested}
use Rattle.wire_frames.specs.Reading.{member_at}
use Rattle.wire_frames.proofs.Loop.{SoFar}
use Rattle.wire_frames.proofs.record_fields.each_member.Given as goal

abbrev pub invariant-members : goal.invariant-members
invariant-members g l = let seen = g.I.Input.seen in SoFar (member_at l.version l.stamp) next_nested l.count l.num (seen l.fn.input) l.list.items (l.count - l.counter) l.last (seen l.input)
