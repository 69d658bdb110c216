use Rattle.std.proofs.Common.{◌≡◌, ◌<◌, suc, ◌+◌, sym, subst, arith, length}
use Rattle.state_forest.proofs.MemberMerges.{SwapTo, swap_all, swap_more}
use Rattle.state_forest.proofs.merging.are_alike.Goals as goal

pub loop-place-preserved : goal.loop-place-preserved
loop-place-preserved c =
    let xs = c.as_slice-kept.result.now in
    let ys = c.as_slice-other.result.now in
    let same : length xs ≡ length ys = omega (arith, c.if-kept-other.false) in
    let less : c.loop-place.place < length xs = omega (arith, c.loop-place-test.true) in
    subst (λ n. SwapTo n xs ys) (let step : suc c.loop-place.place ≡ c.loop-place.place + 1 = omega arith in step)
    (swap_more c.loop-place.place xs ys c.index-kept-place.result c.index-other-place.result c.loop-place.invariant less (omega (arith, less, same)) c.index-kept-place.is c.index-other-place.is (c.is_alike.ensures c.if-not-is_alike.false))

pub returns : goal.returns
returns c = λ yes.
    let xs = c.as_slice-kept.result.now in
    let ys = c.as_slice-other.result.now in
    let same : length xs ≡ length ys = omega (arith, c.if-kept-other.false) in
    let done : c.loop-place.place ≡ length xs = omega (arith, c.loop-place-test.false, c.loop-place.auto.place-end) in
    let swap = swap_all xs ys same (subst (λ n. SwapTo n xs ys) done c.loop-place.invariant) in
    rw (sym c.as_slice-kept.ensures.members, sym c.as_slice-other.ensures.members) swap
