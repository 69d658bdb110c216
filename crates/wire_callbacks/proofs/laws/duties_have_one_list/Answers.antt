use Rattle.wire_callbacks.proofs.Single.{one_list_of_duties}
use Rattle.wire_callbacks.proofs.laws.duties_have_one_list.Goals as goal

pub returns : goal.returns
returns c = one_list_of_duties
