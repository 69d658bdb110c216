use Rattle.state_stamps.proofs.OneIndex.{one_index}
use Rattle.state_stamps.proofs.laws.what_is_known_has_one_index.Goals as goal

pub returns : goal.returns
returns c = one_index
