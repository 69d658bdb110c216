use Rattle.theory_progress.proofs.CallRoundsEnd.{closing_ends, saga_ends}
use Rattle.theory_progress.proofs.laws.bound.a_saga_ends_in_so_many_rounds.Goals as goal

pub returns : goal.returns
returns c = record { alone = saga_ends; closing = closing_ends }
