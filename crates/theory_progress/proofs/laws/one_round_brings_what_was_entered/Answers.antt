use Rattle.theory_progress.proofs.AllCounted.{round_brings}
use Rattle.theory_progress.proofs.laws.one_round_brings_what_was_entered.Goals as goal

pub returns : goal.returns
returns c = round_brings
