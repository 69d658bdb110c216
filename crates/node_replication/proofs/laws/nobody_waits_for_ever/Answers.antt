use Rattle.node_replication.proofs.Lists.{lists}
use Rattle.node_replication.proofs.Waiting.{answers, apart, first, pulls}
use Rattle.node_replication.proofs.laws.nobody_waits_for_ever.Goals as goal

pub returns-clause-answers : goal.returns-clause-answers
returns-clause-answers c = answers

pub returns-clause-pulls : goal.returns-clause-pulls
returns-clause-pulls c = pulls

pub returns-clause-apart : goal.returns-clause-apart
returns-clause-apart c = apart

pub returns-clause-first : goal.returns-clause-first
returns-clause-first c = first

pub returns-clause-lists : goal.returns-clause-lists
returns-clause-lists c = lists
