use Rattle.wire_http.specs.declared.head.HeadKind.TheVariants.{Response}
use Rattle.wire_http.proofs.Heads.{whole_state, response_whole}
use Rattle.wire_http.proofs.head.look_at_response.Goals as goal

pub returns-in-Ok-Complete : goal.returns-in-Ok-Complete
returns-in-Ok-Complete c =
    let within = rw c.in-Ok-Complete.field-0-is at c.in-Ok-Complete.ensures.within in
    let whole = rw c.in-Ok-Complete.field-0-is at c.in-Ok-Complete.ensures.complete in
    whole_state Response _ _ c.args.bytes.now _ c.if_within.ensures
    (response_whole _ c.args.bytes.now c.parse_response.new.headers c.in-Ok-Complete.field-0-0 c.parse_response.auto.headers whole within)
