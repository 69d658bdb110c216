use Rattle.state_forest.specs.Dues.{IsDueAt}
use Rattle.state_forest.proofs.ListsByRecord.{one_list}
use Rattle.state_forest.proofs.laws.what_is_due_has_one_list.Goals as goal

pub returns : goal.returns
returns c home S due before xs ys one_way h k = one_list (IsDueAt home S due) before xs ys one_way h k
