use Rattle.std.proofs.Common.{Err, ap, ◌∙◌}
use Rattle.wire_http.proofs.Tokens.{is_token}
use Rattle.wire_http.proofs.request.method_of.Goals as goal

pub unreachable-requires : goal.unreachable-requires
unreachable-requires c =
    c.from_bytes.ensures.invalid.0 (c.in-Err-Invalid.is ∙ ap Err c.in-Err-Invalid.field-0-is) (is_token c.args.name.now c.requires)
