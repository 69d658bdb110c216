use Rattle.wire_frames.proofs.FramesOfHistories.{no_fact_lacks, no_purge_lacks}
use Rattle.wire_frames.proofs.laws.a_base_below_leaves_out_nothing.Goals as goal

pub returns : goal.returns
returns c = record { purges = no_purge_lacks; facts = no_fact_lacks }
