use Rattle.script_world.proofs.Moving.{run_keeps}
use Rattle.script_world.proofs.StatusesRise.{statuses_rise}
use Rattle.script_world.proofs.laws.statuses_rise.Goals as goal

pub returns : goal.returns
returns c = λ s t events replies world runs. statuses_rise s t world (run_keeps s t events replies world runs)
