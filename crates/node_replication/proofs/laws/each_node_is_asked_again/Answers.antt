use Rattle.node_replication.proofs.Rushing.{again, held, known, listens}
use Rattle.node_replication.proofs.laws.each_node_is_asked_again.Goals as goal

pub returns-clause-again : goal.returns-clause-again
returns-clause-again c = again

pub returns-clause-held : goal.returns-clause-held
returns-clause-held c = held

pub returns-clause-known : goal.returns-clause-known
returns-clause-known c = known

pub returns-clause-listens : goal.returns-clause-listens
returns-clause-listens c = listens
