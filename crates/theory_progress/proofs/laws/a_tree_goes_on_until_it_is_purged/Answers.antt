use Rattle.theory_progress.proofs.OpenUnder.{ended_uncalled}
use Rattle.theory_progress.proofs.UntilPurged.{goes_on}
use Rattle.theory_progress.proofs.laws.a_tree_goes_on_until_it_is_purged.Goals as goal

pub returns : goal.returns
returns c = record { on = goes_on; ended = ended_uncalled }
