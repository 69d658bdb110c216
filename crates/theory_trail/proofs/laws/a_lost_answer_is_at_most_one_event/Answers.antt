use Rattle.theory_trail.proofs.Played.{found_answer, lost_answer}
use Rattle.theory_trail.proofs.laws.a_lost_answer_is_at_most_one_event.Goals as goal

pub returns : goal.returns
returns c = record { entry = lost_answer; found = found_answer }
