use Rattle.std.proofs.Common.{◌∙◌, ◌∷◌, [], List, ap, arith, length, length-append, subst, sym}
use Rattle.state_book.specs.declared.calls.Receipt.{Receipt}
use Rattle.state_book.specs.Desks.{AreSeen}
use Rattle.state_book.proofs.LostBelow.{seen_one_more}
use Rattle.state_book.proofs.Refusals.{refused_of_clerk}
use Rattle.state_book.proofs.desk.Desk.call.Goals as goal

pub invariant_of-mine-2 : goal.invariant_of-mine-2
invariant_of-mine-2 g c =
    let same = c.make_room.ensures.items in
    let before = subst (λ (rs : List Receipt). AreSeen c.mine.inside.pass rs) (sym same) c.mine.invariant.2 in
    let all = seen_one_more c.mine.inside.pass c.enter-entered.new.pass c.make_room.new.receipts.items c.in-Ok.receipt before c.in-Ok.ensures.seen.0 c.in-Ok.ensures.seen.1 in
    let long = ap (λ (rs : List Receipt). length rs) c.push_reserved.ensures.items ∙ length-append c.make_room.new.receipts.items (c.in-Ok.receipt ∷ []) in
    let short = ap (λ (rs : List Receipt). length rs) same in
    (c.enter-entered.ensures.parts ∙ c.mine.invariant.0, omega (arith, long, short, c.in-Ok.ensures.counted, c.mine.invariant.1), subst (λ (rs : List Receipt). AreSeen c.enter-entered.new.pass rs) (sym c.push_reserved.ensures.items) all)

pub returns-in-Err-entered-clause-refused : goal.returns-in-Err-entered-clause-refused
returns-in-Err-entered-clause-refused g c =
    refused_of_clerk c.deref_mut.result.now c.mine.inside.pass c.as_slice.result.now c.enter-entered.new.self c.args.call c.in-Err-entered.refusal c.in-Err-entered.ensures.refused
