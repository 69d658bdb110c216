use Rattle.std.proofs.Common.{rules}
use Rattle.wire_http.proofs.Values.{value_hit, value_miss}
use Rattle.wire_http.proofs.message.Fields.value.Goals as goal

pub returns-then-eq_ignore_ascii_case : goal.returns-then-eq_ignore_ascii_case
returns-then-eq_ignore_ascii_case c =
    value_hit c.args.name.now _ _ _ c.field-item.result _ _ c.as_slice-field-items.ensures c.loop-field-test.true c.field-item.is c.as_slice.ensures
    (c.eq_ignore_ascii_case.ensures.test.0 (search (rules, c.if-eq_ignore_ascii_case.true))) c.as_slice-then-eq_ignore_ascii_case.ensures
    c.loop-field.invariant

pub loop-field-preserved : goal.loop-field-preserved
loop-field-preserved c =
    value_miss c.args.name.now _ _ _ c.field-item.result _ c.as_slice-field-items.ensures c.loop-field-test.true c.field-item.is c.as_slice.ensures
    (λ e. let t = c.eq_ignore_ascii_case.ensures.test.1 e in let f = c.if-eq_ignore_ascii_case.false in cc) c.loop-field.invariant
