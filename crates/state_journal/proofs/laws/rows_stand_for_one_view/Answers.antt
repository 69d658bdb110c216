use Rattle.state_journal.proofs.RuledViews.{one_ruled_view, rewritten_stands, rows_of_one_version}
use Rattle.state_journal.proofs.laws.rows_stand_for_one_view.Goals as goal

pub returns-clause-view : goal.returns-clause-view
returns-clause-view c = one_ruled_view

pub returns-clause-version : goal.returns-clause-version
returns-clause-version c = rows_of_one_version

pub returns-clause-rewritten : goal.returns-clause-rewritten
returns-clause-rewritten c = rewritten_stands
