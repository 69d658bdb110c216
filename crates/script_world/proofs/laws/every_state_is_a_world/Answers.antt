use Rattle.script_world.proofs.Moving.{run_keeps, start_is, step_keeps}
use Rattle.script_world.proofs.laws.every_state_is_a_world.Goals as goal

pub returns-clause-first : goal.returns-clause-first
returns-clause-first c = λ nodes some. start_is nodes some

pub returns-clause-step : goal.returns-clause-step
returns-clause-step c = λ s t event reply world steps. (step_keeps s t event reply world steps).world

pub returns-clause-run : goal.returns-clause-run
returns-clause-run c = λ s t events replies world runs. (run_keeps s t events replies world runs).world
