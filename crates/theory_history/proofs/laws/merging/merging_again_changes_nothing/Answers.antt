use Rattle.theory_history.proofs.MergeIsAJoin.{merge_same}
use Rattle.theory_history.proofs.laws.merging.merging_again_changes_nothing.Goals as goal

pub returns : goal.returns
returns c = merge_same
