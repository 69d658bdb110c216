use Rattle.state_book.proofs.FailuresInATree.{none_failed}
use Rattle.state_book.proofs.laws.a_tree_that_shows_no_failure_has_none.Goals as goal

pub returns : goal.returns
returns c = none_failed
