use Rattle.theory_progress.proofs.AnswersPurge.{can_answer, can_purge}
use Rattle.theory_progress.proofs.laws.a_decided_tree_can_be_purged.Goals as goal

pub returns : goal.returns
returns c = record { purged = can_purge; on = can_answer }
