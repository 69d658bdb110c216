use Rattle.theory_progress.proofs.EdgesByEvent.{few_edges, shown_elsewhere, two_edges}
use Rattle.theory_progress.proofs.laws.diagram.one_event_crosses_few_edges.Goals as goal

pub returns : goal.returns
returns c = record {
  few = λ s t event reply node l a b world step is before after. few_edges s t node l a b world is before after event reply step;
  elsewhere = shown_elsewhere;
  two = two_edges;
}
