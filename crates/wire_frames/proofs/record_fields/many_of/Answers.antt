use Rattle.std.proofs.Common.{ℕ, List}
use Rattle.std.specs.Int.{w64}
use Rattle.wire_frames.specs.FrameFields.{whole_at}
use Rattle.wire_frames.proofs.Loop.{reads_length}
use Rattle.wire_frames.proofs.record_fields.many_of.Goals as goal

pub returns-clause-count : goal.returns-clause-count
returns-clause-count g c = reads_length (λ (s : ℕ). whole_at w64) (λ (s x : ℕ). s) c.args.count 0 (g.I.Input.seen c.args.input.now) (g.I.Input.seen c.each_number.new.input) (λ (x : List ℕ). x) c.each_number.result c.each_number.ensures.gives
