use Rattle.std.proofs.Common.{◌≡◌, ◌+◌, suc, ap, ◌∙◌, arith, set, get_or, max}
use Rattle.state_ids.proofs.Pairs.{paired_to, paired_at, paired_more}
use Rattle.state_ids.proofs.front.greater.Goals as goal

pub loop-place-preserved : goal.loop-place-preserved
loop-place-preserved c =
    let xs = c.args.counts.now in
    let ys = c.args.others.now in
    let i = c.loop-place.place in
    let picked : c.max.result ≡ max (get_or xs i 0) (get_or ys i 0) =
    c.max.ensures ∙ ap (λ x. max x (get_or ys i 0)) (ap (λ r. get_or r i 0) c.loop-place.invariant ∙ paired_at max i xs ys) in
    let step : suc i ≡ i + 1 = omega arith in
    ap (λ r. set r i c.max.result) c.loop-place.invariant ∙ ap (λ n. set (paired_to max i xs ys) i n) picked
    ∙ paired_more max i xs ys (omega arith) (omega arith) ∙ ap (λ n. paired_to max n xs ys) step
