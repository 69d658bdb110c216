use Rattle.std.proofs.Common.{inl, refl}
use Rattle.wire_pulls.proofs.Pulled.{found_unsent, unsent_all}
use Rattle.wire_pulls.proofs.pulling.pull.Goals as goal

pub returns-in-Err-clause-error : goal.returns-in-Err-clause-error
returns-in-Err-clause-error g c = inl (unsent_all _ _ _ _ _ _ _ c.in-Err.fault refl c.in-Err.ensures.unsent)

pub returns-in-Err-clause-found : goal.returns-in-Err-clause-found
returns-in-Err-clause-found g c = found_unsent _ _ _ _ _ _ _ _ c.in-Err.fault c.in-Err.ensures.unsent
