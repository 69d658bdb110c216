-- `end` sends the response that was made, whichever refusal it was made for.
use Rattle.std.proofs.Common.{subst}
use Rattle.std.specs.Prelude.{◌≡◌, IfOk}
use Rattle.wire_http.specs.ByteResponses.{Response}
use Rattle.wire_api.specs.Serving.{Ends}
use Rattle.wire_api.proofs.serving.end.Goals as goal

pub returns-in-Ok-clause-written : goal.returns-in-Ok-clause-written
returns-in-Ok-clause-written g c right is =
    let same = subst (λ made. IfOk made (λ (response : Response). response ≡ right)) c.in-Ok.is is in
    subst (λ (response : Response). Ends g.W.Sink c.args.writer.now c.end_with.new.writer response c.args.refusal c.end_with.result) same c.end_with.ensures
