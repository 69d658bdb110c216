use Rattle.std.proofs.Common.{◌≡◌, ◌-◌, ◌<◌, ◌≤◌, [], ◌∙◌, suc, sym, ap, subst, arith, length, get_or}
use Rattle.state_forest.specs.Pages.{IsPageOf}
use Rattle.state_forest.proofs.PageEdits.{page_at, page_reached, page_some}
use Rattle.state_forest.proofs.PageOrder.{fits_before, page_fits, page_within}
use Rattle.state_forest.proofs.PageHalves.{seat_here}
use Rattle.state_forest.proofs.PageWeights.{before, before_is}
use Rattle.state_forest.proofs.pages.seat.Goals as goal
use Rattle.state_forest.proofs.pages.seat.Goals.{else-at-gt0-via-then-at-gt0+else-not-is_full, else-at-gt0-via-else-at-gt0}

pub index-requires : goal.index-requires
index-requires c =
    let at = subst (IsPageOf c.args.num c.page_of-at.result) c.deref.ensures.value c.page_of-at.ensures in
    omega (arith, page_within c.args.num c.args.pages.now.items c.page_of-at.result c.requires.spare at, c.deref.ensures.len)

pub index-requires-then-at-gt0 : goal.index-requires-then-at-gt0
index-requires-then-at-gt0 c =
    let at = subst (IsPageOf c.args.num c.page_of-at.result) c.deref.ensures.value c.page_of-at.ensures in
    omega (arith, page_within c.args.num c.args.pages.now.items c.page_of-at.result c.requires.spare at, c.deref.ensures.len)

pub index-requires-else-is_empty : goal.index-requires-else-is_empty
index-requires-else-is_empty c =
    let at = subst (IsPageOf c.args.num c.page_of-at.result) c.deref.ensures.value c.page_of-at.ensures in
    omega (arith, page_within c.args.num c.args.pages.now.items c.page_of-at.result c.requires.spare at, c.deref.ensures.len)

pub seat_on_half-requires-clause-fits : goal.seat_on_half-requires-clause-fits
seat_on_half-requires-clause-fits c =
    let at = subst (IsPageOf c.args.num c.page_of-at.result) c.deref.ensures.value c.page_of-at.ensures in
    page_fits c.args.num c.args.pages.now.items c.page_of-at.result c.requires.order c.requires.last (page_within c.args.num c.args.pages.now.items c.page_of-at.result c.requires.spare at) at

pub seat_on_half-requires-clause-full : goal.seat_on_half-requires-clause-full
seat_on_half-requires-clause-full c =
    let at = subst (IsPageOf c.args.num c.page_of-at.result) c.deref.ensures.value c.page_of-at.ensures in
    let within = page_within c.args.num c.args.pages.now.items c.page_of-at.result c.requires.spare at in
    ap length (page_at c.args.pages.now.items c.page_of-at.result c.index-else-is_empty.result.now within c.index-else-is_empty.ensures) ∙ c.is_full-else-is_empty.ensures.full c.if-is_full.true

pub seat_on_half-requires-clause-reached : goal.seat_on_half-requires-clause-reached
seat_on_half-requires-clause-reached c =
    let at = subst (IsPageOf c.args.num c.page_of-at.result) c.deref.ensures.value c.page_of-at.ensures in
    let within = page_within c.args.num c.args.pages.now.items c.page_of-at.result c.requires.spare at in
    page_reached c.args.num c.args.pages.now.items c.page_of-at.result at
    (λ none. absurd (let yes = c.is_empty.ensures.1 (sym (page_at c.args.pages.now.items c.page_of-at.result c.index.result.now within c.index.ensures) ∙ none) in let other = c.if-is_empty.false in cc))

pub returns-then-not-is_full-clause-seat : goal.returns-then-not-is_full-clause-seat
returns-then-not-is_full-clause-seat c =
    let at = subst (IsPageOf c.args.num c.page_of-at.result) c.deref.ensures.value c.page_of-at.ensures in
    let within = page_within c.args.num c.args.pages.now.items c.page_of-at.result c.requires.spare at in
    let next : c.page_of-at.result ≡ suc (c.page_of-at.result - 1) = omega (arith, c.if-at-gt0.true) in
    let empty = page_at c.args.pages.now.items c.page_of-at.result c.index.result.now within c.index.ensures ∙ c.is_empty.ensures.0 c.if-is_empty.true in
    let fits = fits_before c.args.num c.args.pages.now.items (c.page_of-at.result - 1) c.requires.order c.requires.last (subst (λ k. IsPageOf c.args.num k c.args.pages.now.items) next at) (ap (λ k. get_or c.args.pages.now.items k []) (sym next) ∙ empty) in
    let is = page_at c.args.pages.now.items (c.page_of-at.result - 1) c.index-then-at-gt0.result.now (omega (arith, within)) c.index-then-at-gt0.ensures in
    seat_here c.args.num (c.page_of-at.result - 1) c.args.pages.now.items c.requires.last fits (omega (arith, ap length is, c.is_full.ensures.room c.if-not-is_full.true))
    (λ none. absurd (page_some c.args.num c.args.pages.now.items (c.page_of-at.result - 1) (subst (λ k. IsPageOf c.args.num k c.args.pages.now.items) next at) none))

-- the page before is full, or there is no page before
full_before : (c : goal.Joined-else-at-gt0) → c.page_of-at.result < length c.args.pages.now.items → 16 ≤ before 16 c.page_of-at.result c.args.pages.now.items
full_before c within = elim c.else-at-gt0.branch [
  | else-at-gt0-via-then-at-gt0+else-not-is_full w ↦
      let less : c.page_of-at.result - 1 < length c.args.pages.now.items = omega (arith, within) in
      let next : c.page_of-at.result ≡ suc (c.page_of-at.result - 1) = omega (arith, w.if-at-gt0.true) in
      let is = page_at c.args.pages.now.items (c.page_of-at.result - 1) w.index-then-at-gt0.result.now less w.index-then-at-gt0.ensures in
      subst (λ k. 16 ≤ before 16 k c.args.pages.now.items) (sym next) (omega (arith, before_is 16 (c.page_of-at.result - 1) c.args.pages.now.items less, ap length is, w.is_full.ensures.full w.if-not-is_full.false))
  | else-at-gt0-via-else-at-gt0 w ↦
      let first : 0 ≡ c.page_of-at.result = omega (arith, w.if-at-gt0.false) in
      subst (λ k. 16 ≤ before 16 k c.args.pages.now.items) first (omega arith)
]

pub returns-else-at-gt0-clause-seat : goal.returns-else-at-gt0-clause-seat
returns-else-at-gt0-clause-seat c =
    let at = subst (IsPageOf c.args.num c.page_of-at.result) c.deref.ensures.value c.page_of-at.ensures in
    let within = page_within c.args.num c.args.pages.now.items c.page_of-at.result c.requires.spare at in
    seat_here c.args.num c.page_of-at.result c.args.pages.now.items c.requires.last (page_fits c.args.num c.args.pages.now.items c.page_of-at.result c.requires.order c.requires.last within at)
    (omega (arith, ap length (page_at c.args.pages.now.items c.page_of-at.result c.index.result.now within c.index.ensures ∙ c.is_empty.ensures.0 c.if-is_empty.true)))
    (λ none. full_before c within)

pub returns-else-is_full-clause-seat : goal.returns-else-is_full-clause-seat
returns-else-is_full-clause-seat c =
    let at = subst (IsPageOf c.args.num c.page_of-at.result) c.deref.ensures.value c.page_of-at.ensures in
    let within = page_within c.args.num c.args.pages.now.items c.page_of-at.result c.requires.spare at in
    seat_here c.args.num c.page_of-at.result c.args.pages.now.items c.requires.last (page_fits c.args.num c.args.pages.now.items c.page_of-at.result c.requires.order c.requires.last within at)
    (omega (arith, ap length (page_at c.args.pages.now.items c.page_of-at.result c.index-else-is_empty.result.now within c.index-else-is_empty.ensures), c.is_full-else-is_empty.ensures.room c.if-is_full.false))
    (λ none. absurd (let yes = c.is_empty.ensures.1 (sym (page_at c.args.pages.now.items c.page_of-at.result c.index.result.now within c.index.ensures) ∙ none) in let other = c.if-is_empty.false in cc))
