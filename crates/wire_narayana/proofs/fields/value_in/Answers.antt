use Rattle.std.proofs.Common.{rules}
use Rattle.wire_narayana.proofs.FoundFields.{value_hit, value_miss}
use Rattle.wire_narayana.proofs.fields.value_in.Goals as goal
use Rattle.wire_narayana.proofs.fields.value_in.Goals.{then-eq_ignore_ascii_case, else-eq_ignore_ascii_case}

pub loop-header-preserved : goal.loop-header-preserved
loop-header-preserved c =
    elim c.if-eq_ignore_ascii_case.branch [
      | then-eq_ignore_ascii_case w ↦ rw w.last-is (
          value_hit c.args.name.now c.args.head.now c.of.result.now w.of-last.result.now c.args.headers.now c.loop-header.header-index
          c.loop-header-test.true c.of.ensures (c.eq_ignore_ascii_case.ensures.test.0 (search (rules, w.if-eq_ignore_ascii_case.true))) w.of-last.ensures)
      | else-eq_ignore_ascii_case w ↦ rw w.last-is (
          value_miss c.loop-header.last.now c.args.name.now c.args.head.now c.of.result.now c.args.headers.now c.loop-header.header-index
          c.loop-header-test.true c.of.ensures (λ e. let t = c.eq_ignore_ascii_case.ensures.test.1 e in cc) c.loop-header.invariant)
    ]
