use Rattle.std.proofs.Common.{arith}
use Rattle.std.proofs.lemmas.Grind.{common_steps}
use Rattle.std.proofs.lemmas.Result.{err_from_is_err_and}
use Rattle.wire_http.proofs.Bodies.{body_stopped}
use Rattle.wire_http.proofs.body.read_body.Goals as goal

pub returns-in_err-take_piece-clause-fault : goal.returns-in_err-take_piece-clause-fault
returns-in_err-take_piece-clause-fault g c =
    let p = err_from_is_err_and c.from_residual.result c.from_residual.ensures.1 in
    rw (p.1, p.2) (body_stopped _ _ _ _ _ _ _ c.loop-body.invariant.taken (grind (arith, common_steps)) (grind (arith, common_steps)) c.in_err-take_piece.ensures.fault)
