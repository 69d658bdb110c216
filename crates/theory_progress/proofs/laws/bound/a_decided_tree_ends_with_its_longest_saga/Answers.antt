use Rattle.theory_progress.proofs.LongestSaga.{longest_ends}
use Rattle.theory_progress.proofs.laws.bound.a_decided_tree_ends_with_its_longest_saga.Goals as goal

pub returns : goal.returns
returns c = longest_ends
