use Rattle.theory_progress.proofs.FramesEnterNothing.{run_same}
use Rattle.theory_progress.proofs.laws.frames_enter_nothing.Goals as goal

pub returns : goal.returns
returns c = run_same
