use Rattle.theory_trail.proofs.ManyServers.{answers_converge, one_run}
use Rattle.theory_trail.proofs.laws.servers_are_one_world.Goals as goal

pub returns : goal.returns
returns c = record { run = one_run; answers = answers_converge }
