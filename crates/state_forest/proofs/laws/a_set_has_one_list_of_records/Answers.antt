use Rattle.state_forest.proofs.OneListOfRecords.{one_view}
use Rattle.state_forest.proofs.laws.a_set_has_one_list_of_records.Goals as goal

pub returns : goal.returns
returns c = one_view
