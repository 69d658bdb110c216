use Rattle.theory_progress.proofs.DiagramInTheWorld.{branch_alone, branch_root}
use Rattle.theory_progress.proofs.laws.diagram.a_root_keeps_to_one_branch.Goals as goal

pub returns : goal.returns
returns c = record { root = branch_root; alone = branch_alone }
