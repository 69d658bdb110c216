use Rattle.std.proofs.Common.{◌≡◌, drop, map}
use Rattle.wire_http.specs.HeadFields.{field_bytes, first_value}
use Rattle.wire_http.proofs.message.Fields.value.Given as goal

abbrev pub invariant-loop-field : goal.invariant-loop-field
invariant-loop-field l = first_value l.name (map field_bytes (drop l.field-index l.self)) ≡ first_value l.name (map field_bytes l.self)
