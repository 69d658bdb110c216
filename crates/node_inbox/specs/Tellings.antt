-- What another node sent in answer to a pull.
use Rattle.std.specs.Prelude.{ℕ}
use Rattle.wire_frames.specs.Frames.{Frame}

-- the number of the node that was asked, and the frame that it sent
pub record Told : Type 0 where
  pub from : ℕ
  pub frame : Frame
