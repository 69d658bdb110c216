use Rattle.node_replication.proofs.Troubles.{once, soon, told}
use Rattle.node_replication.proofs.laws.what_is_wrong_is_told_once.Goals as goal

pub returns-clause-soon : goal.returns-clause-soon
returns-clause-soon c = soon

pub returns-clause-once : goal.returns-clause-once
returns-clause-once c = once

pub returns-clause-told : goal.returns-clause-told
returns-clause-told c = told
