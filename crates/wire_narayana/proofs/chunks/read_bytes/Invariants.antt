use Rattle.std.proofs.Common.{◌-◌, ◌<◌, ◌≤◌, length}
use Rattle.wire_http.specs.Streams.{Gives}
use Rattle.wire_narayana.proofs.chunks.read_bytes.Given as goal

abbrev pub invariant-loop-source : goal.invariant-loop-source
invariant-loop-source g l = record {
  below : l.interrupted < 1024;
  taken : Gives (g.S.Source.stream l.fn.source) (g.S.Source.stream l.source) l.bytes.items;
  short : length l.bytes.items ≤ l.size;
}

abbrev pub decreases-loop-source : goal.decreases-loop-source
decreases-loop-source g l = l.size - length l.bytes.items
