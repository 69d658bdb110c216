use Rattle.wire_http.proofs.Finals.{parts_are}
use Rattle.wire_http.proofs.response.parts_of.Goals as goal

pub returns : goal.returns
returns c =
    parts_are c.args.head.now c.parse_response.new.headers c.in-Ok-Complete.spans _ c.requires.1
    (rw c.in-Ok-Complete.field-0-is at c.in-Ok-Complete.ensures.complete) (rw c.in-Ok-Complete.field-0-is at c.in-Ok-Complete.ensures.within)
