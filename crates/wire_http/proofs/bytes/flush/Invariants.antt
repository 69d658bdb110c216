use Rattle.std.proofs.Common.{◌≡◌, [], ◌+◌, ◌-◌, ◌≤◌}
use Rattle.wire_http.specs.Streams.{Takes}
use Rattle.wire_http.proofs.bytes.flush.Given as goal

abbrev pub invariant-loop-interrupted : goal.invariant-loop-interrupted
invariant-loop-interrupted g l =
    let old = g.W.Sink.calls l.fn.sink in let now = g.W.Sink.calls l.sink in
    record {
      kept : Takes (g.W.Sink.stream l.fn.sink) (g.W.Sink.stream l.sink) [];
      below : l.interrupted ≤ 1024;
      made : now.made + old.interrupted ≡ old.made + now.interrupted;
      counted : now.interrupted + l.fn.interrupted ≡ old.interrupted + l.interrupted;
      none_failed : now.failed ≡ old.failed;
    }

abbrev pub decreases-loop-interrupted : goal.decreases-loop-interrupted
decreases-loop-interrupted g l = 1024 - l.interrupted
