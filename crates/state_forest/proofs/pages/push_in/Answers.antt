use Rattle.std.proofs.Common.{◌<◌, ◌++◌, ◌∷◌, [], ◌∙◌, ap, arith, length}
use Rattle.state_forest.proofs.PageEdits.{page_at}
use Rattle.state_forest.proofs.PageEnds.{pushed, pushed_last, seat_room}
use Rattle.state_forest.proofs.pages.push_in.Goals as goal

pub push-requires : goal.push-requires
push-requires c =
    let ps = c.make_last_seat.new.pages.items in
    let less : c.in_ok-at.at < length ps = omega (arith, c.in_ok-at.ensures.there, c.make_last_seat.new.pages.ok) in
    omega (arith, ap length (page_at ps c.in_ok-at.at c.index_mut.result.now less c.index_mut.ensures.value), seat_room ps c.in_ok-at.at [] c.in_ok-at.ensures.seat less)

pub returns-clause-ok : goal.returns-clause-ok
returns-clause-ok c =
    let ps = c.make_last_seat.new.pages.items in
    let less : c.in_ok-at.at < length ps = omega (arith, c.in_ok-at.ensures.there, c.make_last_seat.new.pages.ok) in
    rw c.push.ensures (pushed c.args.added ps c.in_ok-at.at c.index_mut.result.now c.in_ok-at.ensures.seat less c.index_mut.ensures.value)
    ∙ ap (λ rs. rs ++ c.args.added ∷ []) c.in_ok-at.ensures.items

pub returns-clause-last : goal.returns-clause-last
returns-clause-last c =
    rw c.push.ensures (pushed_last c.make_last_seat.new.pages.items c.in_ok-at.at c.args.added c.index_mut.result.now c.in_ok-at.ensures.seat c.in_ok-at.ensures.last)
