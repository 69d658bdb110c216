use Rattle.wire_frames.proofs.FramesOfHistories.{merge_takes, some_view, take_law}
use Rattle.wire_frames.proofs.laws.a_taken_frame_is_the_union.Goals as goal

pub returns : goal.returns
returns c = record { view = take_law; some = some_view; merge = merge_takes }
