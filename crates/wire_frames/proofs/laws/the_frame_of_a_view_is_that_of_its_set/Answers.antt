use Rattle.wire_frames.proofs.OfSets.{frame_stands}
use Rattle.wire_frames.proofs.laws.the_frame_of_a_view_is_that_of_its_set.Goals as goal

pub returns : goal.returns
returns c S view base stands = frame_stands S view base stands
