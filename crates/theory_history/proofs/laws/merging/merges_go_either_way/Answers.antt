use Rattle.theory_history.proofs.MergeIsAJoin.{merge_swap}
use Rattle.theory_history.proofs.laws.merging.merges_go_either_way.Goals as goal

pub returns : goal.returns
returns c = merge_swap
