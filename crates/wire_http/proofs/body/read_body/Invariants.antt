use Rattle.std.proofs.Common.{◌≡◌, ◌+◌, ◌-◌, ◌<◌, ◌≤◌, length}
use Rattle.wire_http.specs.Streams.{AllWell, Gives}
use Rattle.wire_http.proofs.body.read_body.Given as goal

abbrev pub invariant-loop-body : goal.invariant-loop-body
invariant-loop-body g l =
    let old = g.S.Source.calls l.fn.source in let now = g.S.Source.calls l.source in
    record {
      below : l.interrupted < 1024;
      taken : Gives (g.S.Source.stream l.fn.source) (g.S.Source.stream l.source) l.body.items;
      short : length l.body.items ≤ l.size;
      counted : now.interrupted + l.fn.interrupted ≡ old.interrupted + l.interrupted;
      well : AllWell (length l.body.items) l.fn.interrupted old now;
    }

abbrev pub decreases-loop-body : goal.decreases-loop-body
decreases-loop-body g l = l.size - length l.body.items
