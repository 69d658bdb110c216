use Rattle.theory_history.proofs.RecordsAfterAPurge.{purge_held}
use Rattle.theory_history.proofs.laws.a_purge_removes_a_tree.Goals as goal

pub returns : goal.returns
returns c f S T root l more settled body is_one = purge_held f S T more settled root body is_one l
