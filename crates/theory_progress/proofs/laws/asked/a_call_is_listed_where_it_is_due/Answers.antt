use Rattle.theory_progress.proofs.AskedInTheWorld.{listed_due}
use Rattle.theory_progress.proofs.laws.asked.a_call_is_listed_where_it_is_due.Goals as goal

pub returns : goal.returns
returns c = record { listed = listed_due; home = λ s node call due. due.own }
