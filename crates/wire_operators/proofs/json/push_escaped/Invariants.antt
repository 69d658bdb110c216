use Rattle.std.proofs.Common.{◌≡◌, ◌++◌, drop}
use Rattle.wire_operators.specs.Json.{quoted_bytes}
use Rattle.wire_operators.proofs.json.push_escaped.Given as goal

abbrev pub invariant-loop-byte : goal.invariant-loop-byte
invariant-loop-byte l = l.body.items ++ quoted_bytes (drop l.byte-index l.bytes) ≡ l.fn.body.items ++ quoted_bytes l.bytes
