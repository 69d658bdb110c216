use Rattle.std.proofs.Common.{arith}
use Rattle.wire_frames.proofs.stream.bytes_fit.Goals as goal

pub returns : goal.returns
returns c = λ i. omega (arith, c.type_inv.bytes i)
