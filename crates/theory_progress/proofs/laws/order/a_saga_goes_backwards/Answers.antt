use Rattle.theory_progress.proofs.SagasBackwards.{joined_later}
use Rattle.theory_progress.proofs.SagasInTheWorld.{sets_ended, turn_is_met, world_ended, world_unasked}
use Rattle.theory_progress.proofs.laws.order.a_saga_goes_backwards.Goals as goal

pub returns : goal.returns
returns c = record { ended = sets_ended; shown = world_ended; asked = λ s t events replies node l d m n act world runs is asked behind. world_unasked s t events replies node l d m n world runs is asked behind act; later = joined_later; met = turn_is_met }
