use Rattle.theory_progress.proofs.DiagramInTheWorld.{path_alone, path_any, path_root}
use Rattle.theory_progress.proofs.laws.diagram.an_lra_goes_by_the_diagram.Goals as goal

pub returns : goal.returns
returns c = record { path = path_any; alone = path_alone; root = path_root }
