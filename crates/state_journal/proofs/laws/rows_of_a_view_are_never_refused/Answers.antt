use Rattle.state_journal.proofs.NeverRefused.{never_refused}
use Rattle.state_journal.proofs.laws.rows_of_a_view_are_never_refused.Goals as goal

pub returns : goal.returns
returns c = never_refused
