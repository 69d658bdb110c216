use Rattle.state_stamps.proofs.OneIndex.{by_each}
use Rattle.state_stamps.proofs.laws.an_index_goes_by_what_is_known_of_each.Goals as goal

pub returns : goal.returns
returns c = by_each
