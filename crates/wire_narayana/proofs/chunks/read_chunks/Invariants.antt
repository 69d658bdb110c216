use Rattle.std.proofs.Common.{◌-◌, ◌<◌, ◌≤◌, length}
use Rattle.wire_http.specs.Streams.{GivesWhat}
use Rattle.wire_narayana.specs.Chunks.{AreChunks}
use Rattle.wire_narayana.proofs.chunks.read_chunks.Given as goal

abbrev pub invariant-loop-body : goal.invariant-loop-body
invariant-loop-body g l = record {
  below : l.interrupted < 1024;
  taken : GivesWhat (g.S.Source.stream l.fn.source) (g.S.Source.stream l.source) (AreChunks l.body.items);
  short : length l.body.items ≤ 65536;
}

abbrev pub decreases-loop-body : goal.decreases-loop-body
decreases-loop-body g l = 65536 - length l.body.items
