use Rattle.state_journal.proofs.RowsStand.{rows_stand}
use Rattle.state_journal.proofs.laws.listed_rows_stand.Goals as goal

pub returns : goal.returns
returns c v me db front_rows lra_rows view formed fronts lras are = rows_stand v me db front_rows lra_rows view formed lras are fronts
