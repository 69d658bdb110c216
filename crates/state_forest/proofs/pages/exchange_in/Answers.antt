use Rattle.std.proofs.Common.{◌≡◌, ◌<◌, [], ◌∙◌, sym, ap, subst, arith, length, set}
use Rattle.state_forest.specs.Pages.{IsPageOf}
use Rattle.state_forest.proofs.PageEdits.{IsFound, empties_kept, found_on, found_some, last_put, page_ascends, page_at, page_found, page_put, put_some, there_within}
use Rattle.state_forest.proofs.PageWeights.{kept_weighs, room_kept}
use Rattle.state_forest.proofs.pages.exchange_in.Goals as goal
use Rattle.state_forest.proofs.pages.exchange_in.Goals.{After-exchange}

pub index_mut-requires : goal.index_mut-requires
index_mut-requires c =
    let within : c.page_of-at.result < length c.args.pages.now.items = there_within c.args.next.num c.args.pages.now.items c.page_of-at.result c.requires.order c.requires.last (subst (IsPageOf c.args.next.num c.page_of-at.result) c.deref.ensures.value c.page_of-at.ensures) c.requires.there in
    omega (arith, within, c.deref.ensures.len)

-- the page on which the number stands
on : (c : goal.After-index_mut) → IsFound c.args.next.num c.page_of-at.result c.args.pages.now.items c.index_mut.result.now
on c = found_on _ _ _ _ c.requires.order c.requires.last (subst (IsPageOf c.args.next.num c.page_of-at.result) c.deref.ensures.value c.page_of-at.ensures) c.requires.there c.index_mut.ensures.value

pub exchange-requires-clause-order : goal.exchange-requires-clause-order
exchange-requires-clause-order c = page_ascends c.args.pages.now.items c.page_of-at.result c.index_mut.result.now (on c).within c.index_mut.ensures.value c.requires.order

pub exchange-requires-clause-there : goal.exchange-requires-clause-there
exchange-requires-clause-there c = (on c).there

pub returns-clause-items : goal.returns-clause-items
returns-clause-items c = rw c.exchange.ensures.records (page_put c.args.next c.args.pages.now.items c.page_of-at.result c.index_mut.result.now c.index_mut.ensures.value (on c.before.before).fits)

some_left : (c : After-exchange) → c.exchange.new.self ≡ [] → ⊥
some_left c none = put_some c.args.next c.index_mut.result.now (sym c.exchange.ensures.records ∙ none)

pub returns-clause-last : goal.returns-clause-last
returns-clause-last c = last_put c.args.next.num c.args.pages.now.items c.page_of-at.result c.exchange.new.self (on c.before.before).fits c.requires.last (some_left c.before)

pub returns-clause-room : goal.returns-clause-room
returns-clause-room c =
    let page = on c.before.before in
    let is = page_at c.args.pages.now.items c.page_of-at.result c.index_mut.result.now page.within page.is in
    room_kept c.args.pages.now.items (set c.args.pages.now.items c.page_of-at.result c.exchange.new.self)
    (empties_kept c.args.pages.now.items c.page_of-at.result c.index_mut.result.now c.exchange.new.self page.within (λ none. found_some c.args.next.num c.index_mut.result.now page.there (page.is ∙ none)) (some_left c.before))
    (kept_weighs 16 c.args.pages.now.items c.page_of-at.result c.exchange.new.self (c.exchange.ensures.len ∙ sym (ap length is)))

pub returns-clause-back : goal.returns-clause-back
returns-clause-back c =
    let page = on c.before.before in
    page_found c.args.next.num c.args.pages.now.items c.page_of-at.result c.index_mut.result.now page.is page.fits ∙ c.exchange.ensures.back
