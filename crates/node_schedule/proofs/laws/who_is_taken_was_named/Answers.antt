use Rattle.node_schedule.proofs.Named.{taken}
use Rattle.node_schedule.proofs.laws.who_is_taken_was_named.Goals as goal

pub returns : goal.returns
returns c = taken
