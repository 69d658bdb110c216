use Rattle.wire_callbacks.proofs.Viewed.{all_of_view}
use Rattle.wire_callbacks.proofs.laws.duties_of_a_view_are_those_of_its_set.Goals as goal

pub returns : goal.returns
returns c = all_of_view
