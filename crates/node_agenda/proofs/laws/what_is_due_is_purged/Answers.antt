use Rattle.node_agenda.proofs.Keeping.{due_is_purged, goes_on, pauses_within}
use Rattle.node_agenda.proofs.laws.what_is_due_is_purged.Goals as goal

pub returns-clause-due : goal.returns-clause-due
returns-clause-due c = due_is_purged

pub returns-clause-goes_on : goal.returns-clause-goes_on
returns-clause-goes_on c = goes_on

pub returns-clause-pauses : goal.returns-clause-pauses
returns-clause-pauses c = pauses_within
