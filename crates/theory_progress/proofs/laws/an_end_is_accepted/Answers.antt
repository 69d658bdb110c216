use Rattle.theory_progress.proofs.EndsAccepted.{end_accepted}
use Rattle.theory_progress.proofs.laws.an_end_is_accepted.Goals as goal

pub returns : goal.returns
returns c = end_accepted
