-- How a restart works: the frame since nothing has everything that a view says.
use Rattle.std.specs.Prelude.{◌≡◌, Ok, length, replicate}
use Rattle.theory_history.specs.Views.{View, empty_view}
use Rattle.wire_frames.specs.Frames.{Frame, frame_of}
use Rattle.wire_frames.specs.Reading.{frame_in}
use Rattle.wire_frames.specs.Encoding.{encoding}
use Rattle.wire_frames.specs.TakenFrames.{IsTaken}

-- the frame since nothing
abbrev pub whole_of : View → Frame
whole_of view = frame_of view (replicate (length view.front) 0)

-- The frame is read from its encoding as the same frame again, and the view of no facts that takes
-- it becomes this view, and no other
pub record ComesBack (view : View) : Type 0 where
  pub read : frame_in (encoding (whole_of view)) ≡ Ok (whole_of view)
  pub taken : IsTaken (empty_view (length view.front)) (whole_of view) view
  pub only : (other : View) → IsTaken (empty_view (length view.front)) (whole_of view) other → other ≡ view
