use Rattle.script_world.proofs.Converging.{converged}
use Rattle.script_world.proofs.laws.the_world_converges.Goals as goal

pub returns : goal.returns
returns c = converged
