use Rattle.node_replication.proofs.Stored.{looks, under_way}
use Rattle.node_replication.proofs.laws.who_looks_waits_for_what_was_stored.Goals as goal

pub returns-clause-stored : goal.returns-clause-stored
returns-clause-stored c = looks

pub returns-clause-under_way : goal.returns-clause-under_way
returns-clause-under_way c = under_way
