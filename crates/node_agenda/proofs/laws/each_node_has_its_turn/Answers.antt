use Rattle.node_agenda.proofs.Circle.{nearer}
use Rattle.node_agenda.proofs.laws.each_node_has_its_turn.Goals as goal

pub returns : goal.returns
returns c = nearer
