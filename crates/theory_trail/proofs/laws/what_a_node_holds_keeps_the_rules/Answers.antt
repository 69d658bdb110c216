use Rattle.theory_trail.proofs.Played.{held_rules, next_rules}
use Rattle.theory_trail.proofs.laws.what_a_node_holds_keeps_the_rules.Goals as goal

pub returns : goal.returns
returns c = record { held = held_rules c.views_of_a_history_keep_the_rules.ensures; next = next_rules c.views_of_a_history_keep_the_rules.ensures }
