use Rattle.theory_trail.proofs.Played.{played_runs}
use Rattle.theory_trail.proofs.laws.a_trail_is_a_run_of_the_world.Goals as goal

pub returns : goal.returns
returns c = played_runs
