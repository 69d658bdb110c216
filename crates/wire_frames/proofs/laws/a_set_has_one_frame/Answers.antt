use Rattle.wire_frames.proofs.OneFrameOfASet.{one_frame}
use Rattle.wire_frames.proofs.laws.a_set_has_one_frame.Goals as goal

pub returns : goal.returns
returns c S base a b nodes left right = one_frame S base a b nodes left right
