use Rattle.theory_progress.proofs.AllCounted.{round_agrees, round_counts}
use Rattle.theory_progress.proofs.laws.one_round_makes_all_alike.Goals as goal

pub returns : goal.returns
returns c = record { all = round_counts; agree = round_agrees }
