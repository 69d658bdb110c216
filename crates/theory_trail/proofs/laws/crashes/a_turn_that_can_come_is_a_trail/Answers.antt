use Rattle.theory_trail.proofs.Crashing.{one_played, one_trail}
use Rattle.theory_trail.proofs.laws.crashes.a_turn_that_can_come_is_a_trail.Goals as goal

pub returns : goal.returns
returns c = record { played = one_played; trails = one_trail }
