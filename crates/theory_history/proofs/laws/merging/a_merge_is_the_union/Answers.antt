use Rattle.theory_history.proofs.MergeIsAJoin.{merge_law}
use Rattle.theory_history.proofs.JoinedFronts.{closed_join, current_join}
use Rattle.theory_history.proofs.laws.merging.a_merge_is_the_union.Goals as goal

pub returns : goal.returns
returns c = record { view = merge_law; closed = closed_join; current = current_join }
