use Rattle.std.proofs.Common.{◌-◌, ◌<◌}
use Rattle.wire_http.specs.Streams.{GivesWhat}
use Rattle.wire_narayana.specs.Framings.{AreInterim}
use Rattle.wire_narayana.proofs.message.read_final.Given as goal

abbrev pub invariant-loop-count : goal.invariant-loop-count
invariant-loop-count g l = record {
  below : l.interrupted < 1024;
  taken : GivesWhat (g.S.Source.stream l.fn.source) (g.S.Source.stream l.source) AreInterim;
}

abbrev pub decreases-loop-count : goal.decreases-loop-count
decreases-loop-count g l = 8 - l.count
