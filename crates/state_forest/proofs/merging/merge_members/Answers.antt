use Rattle.std.proofs.Common.{◌≡◌, ◌+◌, ◌-◌, suc, sym, ap, ◌∙◌, arith, Some, length, set, slice_get}
use Rattle.state_forest.specs.declared.record.Member.TheVariants.{Left}
use Rattle.state_forest.specs.RecordMerges.{merged_member}
use Rattle.state_forest.proofs.MemberMerges.{length_merged, merged_all, merged_more, merged_to, numbered_next}
use Rattle.state_forest.proofs.merging.merge_members.Goals as goal

pub loop-place-preserved : goal.loop-place-preserved
loop-place-preserved c =
    let xs = c.args.kept.now in
    let ys = c.args.other.now in
    let i = c.loop-place.place in
    let a = c.exchange-member.result in
    let back : i + 1 - 1 ≡ i = omega arith in
    let step : suc i ≡ i + 1 = omega arith in
    let done = c.loop-place.invariant.0 in
    let there : slice_get (merged_to i xs ys) i ≡ Some a = ap (λ r. slice_get r i) (sym done) ∙ ap (slice_get c.loop-place.kept) (sym back) ∙ c.exchange-member.ensures.back in
    let all : c.set.new.self ≡ merged_to (i + 1) xs ys =
    c.set.ensures
    ∙ ap (λ k. set c.exchange-member.new.self k c.merged_member.result) back
    ∙ ap (λ r. set r i c.merged_member.result) (c.exchange-member.ensures.changed ∙ ap (λ k. set c.loop-place.kept k Left) back ∙ ap (λ r. set r i Left) done)
    ∙ ap (λ m. set (set (merged_to i xs ys) i Left) i m) (c.merged_member.ensures ∙ ap (merged_member a) (c.get.ensures ∙ numbered_next ys i))
    ∙ merged_more i xs ys a there
    ∙ ap (λ n. merged_to n xs ys) step in
    (all, ap length all ∙ length_merged (i + 1) xs ys)

pub returns : goal.returns
returns c =
    let xs = c.args.kept.now in
    let ys = c.args.other.now in
    let done : c.loop-place.place ≡ length xs = omega (arith, c.loop-place-test.false, c.loop-place.auto.place-end, ap length c.as_slice-place-end.ensures.members) in
    c.loop-place.invariant.0 ∙ ap (λ n. merged_to n xs ys) done ∙ merged_all xs ys
