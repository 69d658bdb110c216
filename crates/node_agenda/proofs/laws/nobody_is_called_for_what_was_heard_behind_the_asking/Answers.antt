use Rattle.node_agenda.proofs.Listed.{answered, answered_stays, let_go, put, said_is_noted, said_stays}
use Rattle.node_agenda.proofs.laws.nobody_is_called_for_what_was_heard_behind_the_asking.Goals as goal

pub returns-clause-answered : goal.returns-clause-answered
returns-clause-answered c = answered

pub returns-clause-said : goal.returns-clause-said
returns-clause-said c = said_is_noted

pub returns-clause-answered_stays : goal.returns-clause-answered_stays
returns-clause-answered_stays c = answered_stays

pub returns-clause-said_stays : goal.returns-clause-said_stays
returns-clause-said_stays c = said_stays

pub returns-clause-put : goal.returns-clause-put
returns-clause-put c = put

pub returns-clause-let_go : goal.returns-clause-let_go
returns-clause-let_go c = let_go
