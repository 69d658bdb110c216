use Rattle.theory_trail.proofs.LostNodes.{lacks_none}
use Rattle.theory_trail.proofs.laws.copies.a_node_of_a_world_lacks_none_of_its_own_facts.Goals as goal

pub returns : goal.returns
returns c = lacks_none
