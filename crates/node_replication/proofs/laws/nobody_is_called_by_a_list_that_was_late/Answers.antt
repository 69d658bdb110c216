use Rattle.node_replication.proofs.Lists.{kept_old, old_not_called, outdated, strict}
use Rattle.node_replication.proofs.laws.nobody_is_called_by_a_list_that_was_late.Goals as goal

pub returns-clause-strict : goal.returns-clause-strict
returns-clause-strict c = strict

pub returns-clause-outdated : goal.returns-clause-outdated
returns-clause-outdated c = outdated

pub returns-clause-kept : goal.returns-clause-kept
returns-clause-kept c = kept_old

pub returns-clause-old : goal.returns-clause-old
returns-clause-old c = old_not_called
