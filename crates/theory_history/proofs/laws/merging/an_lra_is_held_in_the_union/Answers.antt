use Rattle.theory_history.proofs.MergedLras.{both_cover, one_covers}
use Rattle.theory_history.proofs.laws.merging.an_lra_is_held_in_the_union.Goals as goal

pub returns : goal.returns
returns c = record { both = both_cover; one = one_covers }
