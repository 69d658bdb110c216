use Rattle.std.proofs.Common.{◌-◌, ◌<◌, length}
use Rattle.wire_http.specs.Streams.{Gives}
use Rattle.wire_narayana.proofs.message.read_head.Given as goal

abbrev pub invariant-loop-source : goal.invariant-loop-source
invariant-loop-source g l = record {
  below : l.interrupted < 1024;
  taken : Gives (g.S.Source.stream l.fn.source) (g.S.Source.stream l.source) l.head.items;
}

abbrev pub decreases-loop-source : goal.decreases-loop-source
decreases-loop-source g l = 16384 - length l.head.items
