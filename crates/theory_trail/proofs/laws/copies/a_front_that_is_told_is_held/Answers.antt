use Rattle.theory_trail.proofs.Copied.{gave_held, took_held}
use Rattle.theory_trail.proofs.laws.copies.a_front_that_is_told_is_held.Goals as goal

pub returns-clause-gave : goal.returns-clause-gave
returns-clause-gave c = gave_held

pub returns-clause-took : goal.returns-clause-took
returns-clause-took c = took_held
