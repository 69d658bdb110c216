use Rattle.theory_history.proofs.MergeIsAJoin.{merge_assoc}
use Rattle.theory_history.proofs.laws.merging.merges_go_in_any_order.Goals as goal

pub returns : goal.returns
returns c = merge_assoc
