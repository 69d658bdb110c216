use Rattle.theory_trail.proofs.Answering.{answers, member, shown}
use Rattle.theory_trail.proofs.laws.a_node_answers_as_the_world.Goals as goal

pub returns : goal.returns
returns c = record { set = answers; shown = shown; member = member }
