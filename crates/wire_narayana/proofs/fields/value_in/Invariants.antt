use Rattle.std.proofs.Common.{◌≡◌, take, map}
use Rattle.httparse.specs.Spans.{header_bytes}
use Rattle.wire_http.specs.HeadFields.{values}
use Rattle.wire_narayana.specs.Framings.{last_value}
use Rattle.wire_narayana.proofs.fields.value_in.Given as goal

abbrev pub invariant-loop-header : goal.invariant-loop-header
invariant-loop-header l = l.last ≡ last_value (values l.name (map (header_bytes l.head) (take l.header-index l.headers)))
