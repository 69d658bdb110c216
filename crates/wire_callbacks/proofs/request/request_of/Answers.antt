use Rattle.std.proofs.Common.{◌∙◌}
use Rattle.wire_callbacks.proofs.WholeCalls.{whole_of}
use Rattle.wire_callbacks.proofs.request.request_of.Goals as goal

pub returns-clause-whole : goal.returns-clause-whole
returns-clause-whole c =
    whole_of c.args.duty.now c.in_ok-url.url c.method_of.result c.in_ok-target_of.field-0 c.in_ok-host_of.field-0 c.in_ok-bytes_of.field-0 c.in_ok-fields_of.field-0
    c.in_ok-url.ensures.parts c.in_ok-fields_of.ensures.member c.method_of.ensures c.in_ok-target_of.ensures c.in_ok-host_of.ensures c.in_ok-fields_of.ensures.fields
    (c.in_ok-bytes_of.ensures ∙ c.told_body.ensures)
