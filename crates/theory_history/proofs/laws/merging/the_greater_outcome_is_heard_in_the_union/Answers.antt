use Rattle.theory_history.proofs.MergedLras.{greater_heard}
use Rattle.theory_history.proofs.laws.merging.the_greater_outcome_is_heard_in_the_union.Goals as goal

pub returns : goal.returns
returns c = greater_heard
