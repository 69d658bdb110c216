use Rattle.std.proofs.Common.{◌≡◌, take, map}
use Rattle.httparse.specs.Spans.{header_bytes}
use Rattle.wire_http.specs.HeadFields.{field_bytes}
use Rattle.wire_http.proofs.fields.fields_of.Given as goal

abbrev pub invariant-loop-header : goal.invariant-loop-header
invariant-loop-header l = map field_bytes l.fields.items ≡ map (header_bytes l.bytes) (take l.header-index l.headers)
