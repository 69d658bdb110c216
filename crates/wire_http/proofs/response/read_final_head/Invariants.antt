use Rattle.std.proofs.Common.{◌≡◌, ◌+◌, ◌-◌, ◌<◌, ◌≤◌, length}
use Rattle.wire_http.specs.Streams.{AllWell, GivesWhat}
use Rattle.wire_http.proofs.Interims.{Reaches}
use Rattle.wire_http.proofs.response.read_final_head.Given as goal

abbrev pub invariant-loop-head : goal.invariant-loop-head
invariant-loop-head g l =
    let old = g.S.Source.calls l.fn.source in let now = g.S.Source.calls l.source in
    record {
      room : length l.headers ≡ 64;
      most : l.most ≤ 16384;
      lines : l.lines ≤ 64;
      reached : GivesWhat (g.S.Source.stream l.fn.source) (g.S.Source.stream l.source) (Reaches (record { bytes = l.most; lines = l.lines }));
      below : l.interrupted < 1024;
      counted : now.interrupted + l.fn.interrupted ≡ old.interrupted + l.interrupted;
      well : AllWell (16384 - l.most) l.fn.interrupted old now;
    }

abbrev pub decreases-loop-head : goal.decreases-loop-head
decreases-loop-head g l = l.most
