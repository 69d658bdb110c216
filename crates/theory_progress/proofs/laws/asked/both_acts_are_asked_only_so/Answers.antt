use Rattle.theory_progress.proofs.AskedInTheWorld.{both_above, both_root}
use Rattle.theory_progress.proofs.laws.asked.both_acts_are_asked_only_so.Goals as goal

pub returns : goal.returns
returns c = record {
  above = λ s t events replies one other l m act next world runs is at. both_above s t events replies one other l m world runs is at act next;
  root = λ s t events replies one other l m act next world runs is at. both_root s t events replies one other l m world runs is at act next;
}
