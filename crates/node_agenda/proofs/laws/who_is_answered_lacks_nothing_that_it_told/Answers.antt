use Rattle.node_agenda.proofs.Owed.{answered, kept, left, put, taken}
use Rattle.node_agenda.proofs.laws.who_is_answered_lacks_nothing_that_it_told.Goals as goal

pub returns-clause-told : goal.returns-clause-told
returns-clause-told c = answered

pub returns-clause-put : goal.returns-clause-put
returns-clause-put c = put

pub returns-clause-taken : goal.returns-clause-taken
returns-clause-taken c = taken

pub returns-clause-kept : goal.returns-clause-kept
returns-clause-kept c = kept

pub returns-clause-left : goal.returns-clause-left
returns-clause-left c = left
