use Rattle.theory_trail.proofs.Answering.{stands_served, starts_served}
use Rattle.theory_trail.proofs.laws.a_view_that_stands_is_served.Goals as goal

pub returns : goal.returns
returns c = record { first = starts_served; stands = stands_served }
