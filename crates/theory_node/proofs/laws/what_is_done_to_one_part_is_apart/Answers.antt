use Rattle.theory_node.proofs.PartsApart.{apart}
use Rattle.theory_node.proofs.laws.what_is_done_to_one_part_is_apart.Goals as goal

pub returns : goal.returns
returns c = apart
