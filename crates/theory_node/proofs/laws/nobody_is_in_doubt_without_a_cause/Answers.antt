use Rattle.theory_node.proofs.Doubted.{has_cause}
use Rattle.theory_node.proofs.laws.nobody_is_in_doubt_without_a_cause.Goals as goal

pub returns : goal.returns
returns c = has_cause c.who_is_in_doubt_stores_nothing.ensures.heard c.who_is_in_doubt_stores_nothing.ensures.looked
