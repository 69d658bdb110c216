use Rattle.theory_progress.proofs.ReportsEnd.{can_end, can_go_on}
use Rattle.theory_progress.proofs.laws.what_is_under_way_can_be_ended.Goals as goal

pub returns : goal.returns
returns c = record { ends = can_end; on = can_go_on }
