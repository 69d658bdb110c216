use Rattle.std.proofs.Common.{◌≡◌, ◌-◌, ◌<◌, [], ◌∙◌, suc, sym, ap, subst, arith, drop, length}
use Rattle.state_forest.specs.Pages.{IsLastSeat, records_in}
use Rattle.state_forest.proofs.PageEdits.{page_at}
use Rattle.state_forest.proofs.PageEnds.{seat_behind, seat_on}
use Rattle.state_forest.proofs.pages.last_seat.Goals as goal

pub returns-then-is_full : goal.returns-then-is_full
returns-then-is_full c =
    let ps = c.args.pages.now in
    let less : c.down.count - 1 < length ps = omega (arith, c.down-test.true, c.down.invariant.within) in
    let next : c.down.count ≡ suc (c.down.count - 1) = omega (arith, c.down-test.true) in
    let full = ap length (page_at ps (c.down.count - 1) c.index-pages-count.result less c.index-pages-count.is) ∙ c.is_full.ensures.full c.if-is_full.true in
    subst (λ n. IsLastSeat n ps) (sym next)
    (seat_behind ps (c.down.count - 1) c.requires less (λ none. omega (arith, full, ap length none)) (subst (λ n. records_in (drop n ps) ≡ []) next c.down.invariant.none))

pub returns-then-not-is_empty : goal.returns-then-not-is_empty
returns-then-not-is_empty c =
    let ps = c.args.pages.now in
    let less : c.down.count - 1 < length ps = omega (arith, c.down-test.true, c.down.invariant.within) in
    let next : c.down.count ≡ suc (c.down.count - 1) = omega (arith, c.down-test.true) in
    let is = page_at ps (c.down.count - 1) c.index-pages-count.result less c.index-pages-count.is in
    seat_on ps (c.down.count - 1) c.requires less
    (λ none. absurd (let yes = c.is_empty.ensures.1 (sym is ∙ none) in let other = c.if-not-is_empty.true in cc))
    (omega (arith, ap length is, c.is_full.ensures.room c.if-is_full.false))
    (subst (λ n. records_in (drop n ps) ≡ []) next c.down.invariant.none)
