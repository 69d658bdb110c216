use Rattle.theory_trail.proofs.Played.{entry_happens}
use Rattle.theory_trail.proofs.laws.an_entry_can_happen.Goals as goal

pub returns : goal.returns
returns c = entry_happens
