use Rattle.node_agenda.proofs.InPlace.{after_some_end, after_some_keep, after_some_put, after_some_take, none_waits}
use Rattle.node_agenda.proofs.laws.what_waits_is_at_its_nodes_place.Goals as goal

pub returns-clause-empty : goal.returns-clause-empty
returns-clause-empty c = none_waits

pub returns-clause-put : goal.returns-clause-put
returns-clause-put c = after_some_put

pub returns-clause-taken : goal.returns-clause-taken
returns-clause-taken c = after_some_take

pub returns-clause-kept : goal.returns-clause-kept
returns-clause-kept c = after_some_keep

pub returns-clause-ended : goal.returns-clause-ended
returns-clause-ended c = after_some_end
