use Rattle.node_core.proofs.Answering.{held}
use Rattle.node_core.proofs.laws.a_pull_is_held_for_four_seconds.Goals as goal

pub returns : goal.returns
returns c = held
