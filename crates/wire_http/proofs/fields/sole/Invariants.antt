use Rattle.std.proofs.Common.{take, map}
use Rattle.httparse.specs.Spans.{header_bytes}
use Rattle.wire_http.specs.HeadFields.{IsFound}
use Rattle.wire_http.specs.HeadFields.{values}
use Rattle.wire_http.proofs.fields.sole.Given as goal

abbrev pub invariant-loop-header : goal.invariant-loop-header
invariant-loop-header l = IsFound l.found (values l.name (map (header_bytes l.bytes) (take l.header-index l.headers)))
