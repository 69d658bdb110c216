use Rattle.node_replication.proofs.Copied.{always}
use Rattle.node_replication.proofs.Telling.{tells}
use Rattle.node_replication.proofs.laws.what_is_covered_was_copied.Goals as goal

pub returns-clause-covered : goal.returns-clause-covered
returns-clause-covered c node steps = (always node steps).3.copied

pub returns-clause-told : goal.returns-clause-told
returns-clause-told c = tells
