use Rattle.std.proofs.Common.{◌≡◌, ◌+◌, ◌∙◌, suc, sym, ap, subst, arith, length}
use Rattle.state_forest.specs.RecordMerges.{merged_member, merged_members}
use Rattle.state_forest.proofs.MemberMerges.{merged_all, merged_to, numbered_next, stays_more}
use Rattle.state_forest.proofs.lacking.all_stay.Goals as goal

pub loop-place-preserved : goal.loop-place-preserved
loop-place-preserved c =
    let xs = c.as_slice-kept.result.now in
    let ys = c.args.other.now in
    let i = c.loop-place.place in
    let step : suc i ≡ i + 1 = omega arith in
    let same = ap (λ o. merged_member c.index-kept-place.result o) (sym (c.get.ensures ∙ numbered_next ys i)) ∙ c.stays.ensures c.if-not-stays.false in
    subst (λ n. merged_to n xs ys ≡ xs) step (stays_more i xs ys c.index-kept-place.result c.loop-place.invariant (omega (arith, c.loop-place-test.true)) c.index-kept-place.is same)

pub returns : goal.returns
returns c = λ yes.
    let xs = c.as_slice-kept.result.now in
    let ys = c.args.other.now in
    let done : c.loop-place.place ≡ length xs = omega (arith, c.loop-place-test.false, c.loop-place.auto.place-end) in
    let all : merged_members xs ys ≡ xs = sym (merged_all xs ys) ∙ ap (λ n. merged_to n xs ys) (sym done) ∙ c.loop-place.invariant in
    rw (sym c.as_slice-kept.ensures.members) all
