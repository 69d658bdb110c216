use Rattle.std.proofs.Common.{◌++◌, refl}
use Rattle.wire_http.proofs.Known.{gives_more}
use Rattle.wire_narayana.proofs.message.read_request.Goals as goal

pub returns-clause-request : goal.returns-clause-request
returns-clause-request g c =
    let head = c.in_ok-head.head.items in
    let asked = c.in_ok-asked.ensures in
    let body = c.in_ok-body.ensures.body in (
      head ++ body.0,
      gives_more _ _ _ head body.0 c.in_ok-head.ensures.gives body.1,
      (asked.0, c.in_ok-asked.asked.framing, head, body.0, rw c.deref.ensures.value at asked.1, body.2, refl),
    )
