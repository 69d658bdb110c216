use Rattle.std.proofs.Common.{rules}
use Rattle.wire_http.proofs.Values.{found_hit, found_miss}
use Rattle.wire_http.proofs.fields.sole.Goals as goal
use Rattle.wire_http.proofs.fields.sole.Goals.{then-eq_ignore_ascii_case, else-eq_ignore_ascii_case}

pub loop-header-preserved : goal.loop-header-preserved
loop-header-preserved c =
    elim c.if-eq_ignore_ascii_case.branch [
      | then-eq_ignore_ascii_case w ↦ rw w.found-is (
          found_hit c.loop-header.found w.with_one-found.result c.args.name.now c.args.bytes.now c.of.result.now w.of-then-eq_ignore_ascii_case.result.now
          c.args.headers.now c.loop-header.header-index c.loop-header-test.true c.of.ensures
          (c.eq_ignore_ascii_case.ensures.test.0 (search (rules, w.if-eq_ignore_ascii_case.true))) w.of-then-eq_ignore_ascii_case.ensures
          w.with_one-found.ensures c.loop-header.invariant)
      | else-eq_ignore_ascii_case w ↦ rw w.found-is (
          found_miss c.loop-header.found c.args.name.now c.args.bytes.now c.of.result.now c.args.headers.now c.loop-header.header-index
          c.loop-header-test.true c.of.ensures (λ e. let t = c.eq_ignore_ascii_case.ensures.test.1 e in cc) c.loop-header.invariant)
    ]
