use Rattle.wire_frames.proofs.FrameSizes.{frame_most}
use Rattle.wire_frames.proofs.laws.frames_are_not_too_long.Goals as goal

pub returns : goal.returns
returns c = frame_most
