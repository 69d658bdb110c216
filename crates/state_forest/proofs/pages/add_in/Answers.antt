use Rattle.std.proofs.Common.{◌∙◌, sym, ap, subst, arith, length}
use Rattle.state_forest.specs.Forests.{IsAscending}
use Rattle.state_forest.specs.Places.{put_record}
use Rattle.state_forest.proofs.PageEdits.{fits_length, last_put, page_ascends, page_at, page_put, put_some, some_length}
use Rattle.state_forest.proofs.pages.add_in.Goals as goal

pub index_mut-requires : goal.index_mut-requires
index_mut-requires c = omega (arith, fits_length c.args.added.num c.seat-at.new.pages.items c.seat-at.result c.seat-at.ensures.seat.fits, c.seat-at.new.pages.ok)

pub put-requires-clause-order : goal.put-requires-clause-order
put-requires-clause-order c =
    let seat = c.seat-at.ensures.seat in
    page_ascends c.seat-at.new.pages.items c.seat-at.result c.index_mut.result.now (fits_length _ _ _ seat.fits) c.index_mut.ensures.value (subst IsAscending (sym seat.same) c.requires.order)

pub put-requires-clause-room : goal.put-requires-clause-room
put-requires-clause-room c =
    let seat = c.seat-at.ensures.seat in
    let is = page_at c.seat-at.new.pages.items c.seat-at.result c.index_mut.result.now (fits_length _ _ _ seat.fits) c.index_mut.ensures.value in
    omega (arith, seat.room, ap length is)

pub returns-clause-items : goal.returns-clause-items
returns-clause-items c =
    let seat = c.seat-at.ensures.seat in
    rw c.put.ensures.records (page_put c.args.added c.seat-at.new.pages.items c.seat-at.result c.index_mut.result.now c.index_mut.ensures.value seat.fits) ∙ ap (put_record c.args.added) seat.same

pub returns-clause-last : goal.returns-clause-last
returns-clause-last c =
    let seat = c.seat-at.ensures.seat in
    rw c.put.ensures.records (last_put c.args.added.num c.seat-at.new.pages.items c.seat-at.result _ seat.fits seat.last (put_some c.args.added c.index_mut.result.now))

pub returns-clause-room : goal.returns-clause-room
returns-clause-room c =
    let seat = c.seat-at.ensures.seat in
    let is = page_at c.seat-at.new.pages.items c.seat-at.result c.index_mut.result.now (fits_length _ _ _ seat.fits) c.index_mut.ensures.value in
    seat.spare c.put.new.self (some_length c.put.new.self (λ none. put_some c.args.added c.index_mut.result.now (sym c.put.ensures.records ∙ none))) (omega (arith, c.put.ensures.len, ap length is))
