use Rattle.node_core.proofs.Answering.{known}
use Rattle.node_core.proofs.laws.each_frame_that_was_given_is_known.Goals as goal

pub returns : goal.returns
returns c = known
