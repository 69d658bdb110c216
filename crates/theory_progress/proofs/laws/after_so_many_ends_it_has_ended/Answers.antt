use Rattle.theory_progress.proofs.EndsInTheWorld.{run_stays, world_ends, world_most}
use Rattle.theory_progress.proofs.laws.after_so_many_ends_it_has_ended.Goals as goal

pub returns : goal.returns
returns c = record { stays = λ s t events replies node l verdict world runs is wanted later. run_stays s t node l verdict events replies world runs is wanted later; most = world_most; ended = world_ends }
