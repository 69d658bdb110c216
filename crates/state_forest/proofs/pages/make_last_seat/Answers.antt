use Rattle.std.proofs.Common.{◌≤◌, ◌∙◌, [], sym, ap, subst, arith, length}
use Rattle.std.proofs.lemmas.List.{length_push}
use Rattle.state_forest.specs.Pages.{AreEmptyLast, IsLastSeat, records_in}
use Rattle.state_forest.proofs.PageEdits.{behind, emptied_behind}
use Rattle.state_forest.proofs.PageEnds.{seat_added, seat_within}
use Rattle.state_forest.proofs.pages.make_last_seat.Goals as goal

pub returns-clause-items : goal.returns-clause-items
returns-clause-items c = ap records_in c.in_ok-add_page.ensures.ok ∙ behind c.args.pages.now.items

pub returns-clause-last : goal.returns-clause-last
returns-clause-last c = subst AreEmptyLast (sym c.in_ok-add_page.ensures.ok) (emptied_behind c.args.pages.now.items c.requires.last)

pub returns-clause-seat : goal.returns-clause-seat
returns-clause-seat c =
    let seat = subst (IsLastSeat c.last_seat-at.result) c.deref.ensures.value c.last_seat-at.ensures in
    let beyond : length c.args.pages.now.items ≤ c.last_seat-at.result = omega (arith, c.if-at-len.false, c.len.ensures, c.args.pages.now.ok) in
    subst (IsLastSeat c.last_seat-at.result) (sym c.in_ok-add_page.ensures.ok) (seat_added c.args.pages.now.items c.last_seat-at.result seat beyond)

pub returns-clause-there : goal.returns-clause-there
returns-clause-there c =
    let seat = subst (IsLastSeat c.last_seat-at.result) c.deref.ensures.value c.last_seat-at.ensures in
    omega (arith, seat_within c.args.pages.now.items c.last_seat-at.result seat, ap length c.in_ok-add_page.ensures.ok, length_push c.args.pages.now.items [], c.add_page.new.pages.ok)
