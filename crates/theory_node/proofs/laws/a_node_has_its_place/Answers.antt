use Rattle.theory_node.proofs.Placed.{placed}
use Rattle.theory_node.proofs.laws.a_node_has_its_place.Goals as goal

pub returns : goal.returns
returns c = placed c.who_is_in_doubt_stores_nothing.ensures.heard c.who_is_in_doubt_stores_nothing.ensures.looked
