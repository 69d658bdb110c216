use Rattle.std.proofs.Common.{◌≡◌, [], ◌+◌, ◌-◌, ◌≤◌}
use Rattle.wire_http.specs.Streams.{Gives}
use Rattle.wire_http.proofs.body.read_piece.Given as goal

abbrev pub invariant-loop-interrupted : goal.invariant-loop-interrupted
invariant-loop-interrupted g l =
    let old = g.S.Source.calls l.fn.source in let now = g.S.Source.calls l.source in
    record {
      kept : Gives (g.S.Source.stream l.fn.source) (g.S.Source.stream l.source) [];
      below : l.interrupted ≤ 1024;
      made : now.made + old.interrupted ≡ old.made + now.interrupted;
      counted : now.interrupted + l.fn.interrupted ≡ old.interrupted + l.interrupted;
      none_failed : now.failed ≡ old.failed;
    }

abbrev pub decreases-loop-interrupted : goal.decreases-loop-interrupted
decreases-loop-interrupted g l = 1024 - l.interrupted
