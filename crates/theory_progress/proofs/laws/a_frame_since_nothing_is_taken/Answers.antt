use Rattle.theory_progress.proofs.NeverRefused.{sent_since_nothing, taken_since_nothing}
use Rattle.theory_progress.proofs.laws.a_frame_since_nothing_is_taken.Goals as goal

pub returns : goal.returns
returns c = record { sent = λ s t node reply world is step. sent_since_nothing s t node reply is step; taken = taken_since_nothing }
