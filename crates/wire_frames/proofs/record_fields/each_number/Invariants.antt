use Rattle.std.proofs.Common.{◌-◌, ◌≡◌, ◌+◌, ◌*◌, length, take, ℕ}
use Rattle.std.specs.Int.{w64}
use Rattle.wire_frames.specs.FrameFields.{whole_at}
use Rattle.wire_frames.proofs.Loop.{SoFar}
use Rattle.wire_frames.proofs.record_fields.each_number.Given as goal

abbrev pub invariant-numbers : goal.invariant-numbers
invariant-numbers g l = let seen = g.I.Input.seen in record {
  all : length l.numbers ≡ 8;
  took : length (seen l.input).taken ≡ length (seen l.fn.input).taken + 8 * l.place;
  so_far : SoFar (λ (s : ℕ). whole_at w64) (λ (s x : ℕ). s) l.count 0 (seen l.fn.input) (take l.place l.numbers) (l.count - l.place) 0 (seen l.input);
}
