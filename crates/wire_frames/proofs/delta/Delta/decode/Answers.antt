use Rattle.std.proofs.Common.{arith}
use Rattle.wire_frames.proofs.Found.{is_found, is_only}
use Rattle.wire_frames.proofs.delta.Delta.decode.Goals as goal

pub returns-clause-found : goal.returns-clause-found
returns-clause-found c = is_found c.args.bytes.now c.frame_in_slice.result (λ i. omega (arith, c.type_inv.bytes i)) c.frame_in_slice.ensures

pub returns-clause-only : goal.returns-clause-only
returns-clause-only c = λ v d f e. is_only c.args.bytes.now c.frame_in_slice.result c.frame_in_slice.ensures v d f e
