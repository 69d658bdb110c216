use Rattle.std.proofs.Common.{◌≢◌, ◌-◌, ◌<◌, length}
use Rattle.std.specs.List.{AllByRecursion}
use Rattle.wire_http.specs.Streams.{Gives}
use Rattle.wire_narayana.proofs.chunks.read_line.Given as goal

abbrev pub invariant-loop-source : goal.invariant-loop-source
invariant-loop-source g l = record {
  below : l.interrupted < 1024;
  taken : Gives (g.S.Source.stream l.fn.source) (g.S.Source.stream l.source) l.line.items;
  one : AllByRecursion (λ b. b ≢ 10) l.line.items;
}

abbrev pub decreases-loop-source : goal.decreases-loop-source
decreases-loop-source g l = 1024 - length l.line.items
