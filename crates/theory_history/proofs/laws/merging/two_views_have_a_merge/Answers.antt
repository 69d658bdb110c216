use Rattle.theory_history.proofs.OneMerge.{merge_is, merge_only}
use Rattle.theory_history.proofs.laws.merging.two_views_have_a_merge.Goals as goal

pub returns : goal.returns
returns c = record { merge = merge_is; only = merge_only }
