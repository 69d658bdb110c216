use Rattle.node_schedule.proofs.Hanging.{other_counts, other_few}
use Rattle.node_schedule.proofs.laws.who_refuses_at_once_never_takes_the_last_caller.Goals as goal

pub returns-clause-begins : goal.returns-clause-begins
returns-clause-begins c = other_few

pub returns-clause-counts : goal.returns-clause-counts
returns-clause-counts c = other_counts
