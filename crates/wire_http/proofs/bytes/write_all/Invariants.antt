use Rattle.std.proofs.Common.{◌≡◌, ◌+◌, ◌-◌, ◌<◌, ◌≤◌, length, take}
use Rattle.wire_http.specs.Streams.{Takes}
use Rattle.wire_http.proofs.bytes.write_all.Given as goal

abbrev pub invariant-loop-done : goal.invariant-loop-done
invariant-loop-done g l =
    let old = g.W.Sink.calls l.fn.sink in let now = g.W.Sink.calls l.sink in
    record {
      within : l.done ≤ length l.bytes;
      wrote : Takes (g.W.Sink.stream l.fn.sink) (g.W.Sink.stream l.sink) (take l.done l.bytes);
      below : l.interrupted < 1024;
      made : now.made + old.interrupted ≤ old.made + l.done + now.interrupted;
      counted : now.interrupted + l.fn.interrupted ≡ old.interrupted + l.interrupted;
      none_failed : now.failed ≡ old.failed;
    }

abbrev pub decreases-loop-done : goal.decreases-loop-done
decreases-loop-done g l = (length l.bytes - l.done) + (1024 - l.interrupted)
