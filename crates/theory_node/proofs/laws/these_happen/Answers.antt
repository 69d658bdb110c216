use Rattle.theory_node.proofs.Example.{doubt_cast, doubt_goes_on, fact_stored, frame_given, pull_held}
use Rattle.theory_node.proofs.laws.these_happen.Goals as goal

pub returns : goal.returns
returns c = record { given = frame_given; stored = fact_stored; held = pull_held; cast = doubt_cast; goes_on = doubt_goes_on }
