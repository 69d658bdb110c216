use Rattle.theory_history.proofs.MergeIsAJoin.{merge_above_first, merge_above_second, merge_least}
use Rattle.theory_history.proofs.laws.merging.a_merge_is_the_least_upper_bound.Goals as goal

pub returns : goal.returns
returns c = record { first = merge_above_first; second = merge_above_second; least = merge_least }
