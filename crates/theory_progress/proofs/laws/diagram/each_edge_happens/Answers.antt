use Rattle.theory_progress.proofs.EachEdge.{edge_happens}
use Rattle.theory_progress.proofs.laws.diagram.each_edge_happens.Goals as goal

pub returns : goal.returns
returns c = edge_happens
