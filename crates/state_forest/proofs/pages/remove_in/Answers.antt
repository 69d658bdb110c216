use Rattle.std.proofs.Common.{◌≡◌, ◌<◌, ◌≤◌, ◌∙◌, sym, subst, arith, length, set}
use Rattle.std.proofs.lemmas.List.{get_or-set_same}
use Rattle.state_forest.specs.Pages.{IsPageOf}
use Rattle.state_forest.proofs.PageEdits.{IsCut, IsWithout, cut_moves, cut_stays, none_lesser, page_ascends}
use Rattle.state_forest.proofs.PageOrder.{all_lesser, page_fits}
use Rattle.state_forest.proofs.pages.remove_in.Goals as goal
use Rattle.state_forest.proofs.pages.remove_in.Goals.{After-is_empty}

pub returns-then-at-len-clause-items : goal.returns-then-at-len-clause-items
returns-then-at-len-clause-items c =
    let at = subst (IsPageOf c.args.num c.page_of-at.result) c.deref.ensures.value c.page_of-at.ensures in
    let past : length c.args.pages.now.items ≤ c.page_of-at.result = omega (arith, c.if-at-len.true, c.len.ensures, c.args.pages.now.ok) in
    sym (none_lesser c.args.num _ (all_lesser c.args.num c.args.pages.now.items c.page_of-at.result c.requires.order c.requires.last past at))

pub remove-requires : goal.remove-requires
remove-requires c =
    let within : c.page_of-at.result < length c.args.pages.now.items = omega (arith, c.if-at-len.false, c.len.ensures, c.args.pages.now.ok) in
    page_ascends c.args.pages.now.items c.page_of-at.result c.index_mut.result.now within c.index_mut.ensures.value c.requires.order

-- the page without the number
cut_of : (c : After-is_empty) → IsCut c.args.num c.page_of-at.result c.args.pages.now.items c.index_mut.result.now c.remove.new.self
cut_of c =
    let num = c.args.num in
    let ps = c.args.pages.now.items in
    let at = c.page_of-at.result in
    let within : at < length ps = omega (arith, c.if-at-len.false, c.len.ensures, c.args.pages.now.ok) in
    record {
      within = within;
      is = c.index_mut.ensures.value;
      fits = page_fits num ps at c.requires.order c.requires.last within (subst (IsPageOf num at) c.deref.ensures.value c.page_of-at.ensures);
      last = c.requires.last;
      order = c.requires.order;
      cut = c.remove.ensures.records;
      fewer = c.remove.ensures.len;
    }

-- the page is looked at again, unchanged
looked_at : (c : After-is_empty) → c.index.result.now ≡ c.remove.new.self
looked_at c = c.index.ensures ∙ get_or-set_same c.args.pages.now.items c.page_of-at.result c.remove.new.self c.index.result.now (cut_of c).within

stays : (c : goal.Else-is_empty) → IsWithout c.args.num c.args.pages.now.items (set c.args.pages.now.items c.page_of-at.result c.remove.new.self)
stays c =
    cut_stays _ _ _ _ _ (cut_of c.before) (λ none. absurd (let yes = c.is_empty.ensures.1 (looked_at c.before ∙ none) in let other = c.if-is_empty.false in cc))

moves : (c : goal.After-move_behind) → IsWithout c.args.num c.args.pages.now.items c.move_behind.new.pages.items
moves c =
    cut_moves _ _ _ _ _ _ (cut_of c.before.before.before) (sym (looked_at c.before.before.before) ∙ c.is_empty.ensures.0 c.if-is_empty.true) c.move_behind.ensures.items

pub returns-else-is_empty-clause-items : goal.returns-else-is_empty-clause-items
returns-else-is_empty-clause-items c = (stays c).items

pub returns-else-is_empty-clause-last : goal.returns-else-is_empty-clause-last
returns-else-is_empty-clause-last c = (stays c).last

pub returns-else-is_empty-clause-room : goal.returns-else-is_empty-clause-room
returns-else-is_empty-clause-room c = (stays c).room

pub returns-then-is_empty-clause-items : goal.returns-then-is_empty-clause-items
returns-then-is_empty-clause-items c = (moves c).items

pub returns-then-is_empty-clause-last : goal.returns-then-is_empty-clause-last
returns-then-is_empty-clause-last c = (moves c).last

pub returns-then-is_empty-clause-room : goal.returns-then-is_empty-clause-room
returns-then-is_empty-clause-room c = (moves c).room
