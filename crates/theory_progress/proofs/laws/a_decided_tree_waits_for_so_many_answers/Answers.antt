use Rattle.theory_progress.proofs.AnswersInTheWorld.{tree_falls, tree_stays}
use Rattle.theory_progress.proofs.AnswersLeft.{uncalled}
use Rattle.theory_progress.proofs.laws.a_decided_tree_waits_for_so_many_answers.Goals as goal

pub returns : goal.returns
returns c = record { stays = tree_stays; falls = tree_falls; none = uncalled }
