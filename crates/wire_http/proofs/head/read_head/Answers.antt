use Rattle.std.proofs.Common.{◌≡◌, ◌+◌, ◌∙◌, ◌||◌, [], ap, arith, length-append, length, refl, rules}
use Rattle.std.proofs.lemmas.Result.{err_from_is_err_and}
use Rattle.std.specs.List.{list_any}
use Rattle.wire_http.proofs.Calling.{well_none, well_then}
use Rattle.wire_http.proofs.Known.{gives_none}
use Rattle.wire_http.proofs.Heads.{all_but_one, long_head, none_is_shorter, none_lacked, nothing, part_lost, rest_of, stops, takes_part, unspaced_more, whole_head}
use Rattle.wire_http.specs.Heads.{is_space}
use Rattle.wire_http.proofs.head.read_head.Goals as goal

pub loop-head-init : goal.loop-head-init
loop-head-init g c = record {
  below = c.requires.below;
  taken = rw c.in_ok-head.ensures.items (gives_none _);
  none = rw c.in_ok-head.ensures.items (nothing _);
  others = rw c.in_ok-head.ensures.items (λ none. refl);
  short = rw c.in_ok-head.ensures.items (omega arith);
  counted = omega arith;
  well = rw c.in_ok-head.ensures.items (well_none _ _ c.requires.below);
}

pub returns-in_err-head-clause-memory : goal.returns-in_err-head-clause-memory
returns-in_err-head-clause-memory g c =
    let p = err_from_is_err_and c.from_residual.result c.from_residual.ensures.1 in
    rw (p.1, p.2) (λ memory. ([], gives_none _, none_is_shorter _ _ (nothing _)))

pub returns-in_err-count-clause-memory : goal.returns-in_err-count-clause-memory
returns-in_err-count-clause-memory g c =
    let p = err_from_is_err_and c.from_residual-in_err-count.result c.from_residual-in_err-count.ensures.1 in
    let lost = c.in_err-count.ensures.fault in
    rw (p.1, p.2) (λ memory. part_lost _ _ _ _ _ c.loop-head.head.items lost.0 c.loop-head.invariant.taken lost.1 c.loop-head.invariant.none
    (omega (arith, c.len-before.ensures, c.requires.most, c.loop-head.invariant.short)))

pub loop-head-preserved : goal.loop-head-preserved
loop-head-preserved g c =
    let head = c.loop-head.head.items in
    let items = c.take_part.new.head.items in
    let (part, e, count, is, ended) = c.in_ok-count.ensures.ok in
    let but = all_but_one _ c.args.most head part items e c.loop-head.invariant.none is.line (omega (arith, c.if-count-eq0.false, count))
    (omega (arith, is.short, c.len-before.ensures, c.loop-head.invariant.short)) in
    let size : length items ≡ length head + length part = ap length e ∙ length-append head part in
    let lacks = rw c.deref-in-loop-head-2.ensures.value at c.if-is_due.ensures in
    let spaced : c.is_spaced-spaced.result ≡ (c.loop-head.spaced || list_any is_space part) =
    rw (c.deref-in-loop-head.ensures.value, rest_of c.len-before.result head part items (omega (arith, c.len-before.ensures)) e) at c.is_spaced-spaced.ensures in
    let others = unspaced_more _ _ head part items spaced e c.loop-head.invariant.others in record {
      below = search rules;
      taken = takes_part _ _ _ _ head part items c.loop-head.invariant.taken is e;
      none = none_lacked _ _ _ items but others lacks.0;
      others = others;
      short = lacks.1;
      counted = omega (arith, c.loop-head.invariant.counted, c.take_part.ensures.counted);
      well = well_then (length head) 1 (length items) _ _ _ _ _ (omega (arith, size, c.if-count-eq0.false, count)) c.loop-head.invariant.counted
          c.loop-head.invariant.well c.in_ok-count.ensures.streams;
    }

pub returns-in-Whole-clause-head : goal.returns-in-Whole-clause-head
returns-in-Whole-clause-head g c =
    let head = c.loop-head.head.items in
    let items = c.take_part.new.head.items in
    let (part, e, count, is, ended) = c.in_ok-count.ensures.ok in
    let but = all_but_one _ c.args.most head part items e c.loop-head.invariant.none is.line (omega (arith, c.if-count-eq0.false, count))
    (omega (arith, is.short, c.len-before.ensures, c.loop-head.invariant.short)) in (
      takes_part _ _ _ _ head part items c.loop-head.invariant.taken is e,
      whole_head _ _ _ but.front items but.byte but.is but.none (rw (c.deref-then-is_due.ensures.value, c.loop-head.auto.headers) at c.in-Whole.ensures),
    )

pub returns-in-Long-clause-fault : goal.returns-in-Long-clause-fault
returns-in-Long-clause-fault g c =
    let head = c.loop-head.head.items in
    let items = c.take_part.new.head.items in
    let (part, e, count, is, ended) = c.in_ok-count.ensures.ok in
    let but = all_but_one _ c.args.most head part items e c.loop-head.invariant.none is.line (omega (arith, c.if-count-eq0.false, count))
    (omega (arith, is.short, c.len-before.ensures, c.loop-head.invariant.short)) in
    stops _ _ _ _ _ _ _ (takes_part _ _ _ _ head part items c.loop-head.invariant.taken is e)
    (long_head _ _ _ but.front items but.byte but.is but.none but.short
    (rw (c.deref-then-is_due.ensures.value, c.loop-head.auto.headers) at c.in-Long.ensures)) (λ e. absurd (cc))
