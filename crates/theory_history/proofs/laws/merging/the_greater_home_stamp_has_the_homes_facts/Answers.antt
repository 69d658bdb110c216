use Rattle.theory_history.proofs.MergedLras.{home_facts}
use Rattle.theory_history.proofs.laws.merging.the_greater_home_stamp_has_the_homes_facts.Goals as goal

pub returns : goal.returns
returns c = home_facts
