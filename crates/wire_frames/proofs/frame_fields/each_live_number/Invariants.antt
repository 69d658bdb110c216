use Rattle.std.proofs.Common.{◌-◌, ℕ}
use Rattle.std.specs.Int.{w64}
use Rattle.wire_frames.specs.FrameFields.{number_at}
use Rattle.wire_frames.specs.Rules.{is_live_number}
use Rattle.wire_frames.proofs.Loop.{SoFar}
use Rattle.wire_frames.proofs.frame_fields.each_live_number.Given as goal

abbrev pub invariant-numbers : goal.invariant-numbers
invariant-numbers g l = let seen = g.I.Input.seen in SoFar (λ last. number_at w64 (is_live_number l.top last)) (λ (last n : ℕ). n) l.count 0 (seen l.fn.input) l.list.items (l.count - l.counter) l.last (seen l.input)
