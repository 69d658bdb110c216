use Rattle.theory_trail.proofs.HeldAnswers.{answered_held}
use Rattle.theory_trail.proofs.laws.crashes.what_was_answered_is_held.Goals as goal

pub returns : goal.returns
returns c = answered_held
