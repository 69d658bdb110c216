use Rattle.std.proofs.Common.{◌≡◌, ◌+◌, ◌-◌, ◌<◌, ◌≤◌, length}
use Rattle.wire_http.specs.Heads.{HasNoHead}
use Rattle.wire_http.specs.Streams.{AllWell, Gives}
use Rattle.wire_http.proofs.Heads.{Unspaced}
use Rattle.wire_http.proofs.head.read_head.Given as goal

abbrev pub invariant-loop-head : goal.invariant-loop-head
invariant-loop-head g l =
    let old = g.S.Source.calls l.fn.source in let now = g.S.Source.calls l.source in
    record {
      below : l.interrupted < 1024;
      taken : Gives (g.S.Source.stream l.fn.source) (g.S.Source.stream l.source) l.head.items;
      none : HasNoHead l.kind l.head.items;
      others : Unspaced l.spaced l.head.items;
      short : length l.head.items ≤ l.most;
      counted : now.interrupted + l.fn.interrupted ≡ old.interrupted + l.interrupted;
      well : AllWell (length l.head.items) l.fn.interrupted old now;
    }

abbrev pub decreases-loop-head : goal.decreases-loop-head
decreases-loop-head g l = l.most + 1 - length l.head.items
