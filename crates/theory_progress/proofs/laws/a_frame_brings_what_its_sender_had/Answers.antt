use Rattle.theory_progress.proofs.Hearing.{hears_below}
use Rattle.theory_progress.proofs.laws.a_frame_brings_what_its_sender_had.Goals as goal

pub returns : goal.returns
returns c = hears_below
