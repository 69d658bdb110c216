use Rattle.script_world.proofs.Moving.{run_keeps}
use Rattle.script_world.proofs.Parting.{no_split}
use Rattle.script_world.proofs.laws.no_verdict_is_split.Goals as goal

pub returns : goal.returns
returns c = λ s t events replies world runs. no_split s t world (run_keeps s t events replies world runs)
