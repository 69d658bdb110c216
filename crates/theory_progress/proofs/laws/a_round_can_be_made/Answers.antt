use Rattle.theory_progress.proofs.RoundsExist.{round_exists}
use Rattle.theory_progress.proofs.TellingAtFirst.{start_tells}
use Rattle.theory_progress.proofs.laws.a_round_can_be_made.Goals as goal

pub returns : goal.returns
returns c = record { made = λ s world can. round_exists s world can; met = start_tells }
