use Rattle.std.proofs.Common.{◌++◌, ◌∙◌, List, suc, sym, ap, add-one, drop, filter, nat_lt}
use Rattle.state_forest.specs.declared.record.Record.{Record}
use Rattle.state_forest.specs.Pages.{records_in}
use Rattle.state_forest.proofs.PageEdits.{after_page, none_more, page_ascends}
use Rattle.state_forest.proofs.PageOrder.{all_lesser, page_fits}
use Rattle.state_forest.proofs.pages.after_in.Goals as goal

pub returns-then-at-pages : goal.returns-then-at-pages
returns-then-at-pages c =
    sym (none_more c.args.num _ (all_lesser c.args.num c.args.pages.now c.page_of-at.result c.requires.order c.requires.last c.if-at-pages.true c.page_of-at.ensures))

pub after-page-requires : goal.after-page-requires
after-page-requires c = page_ascends c.args.pages.now c.page_of-at.result c.index-pages-at.result c.if-at-pages.false c.index-pages-at.is c.requires.order

pub returns : goal.returns
returns c =
    let fits = page_fits c.args.num c.args.pages.now c.page_of-at.result c.requires.order c.requires.last c.if-at-pages.false c.page_of-at.ensures in
    ap (λ (ps : List Record). ps ++ records_in c.pages_behind-pages.result.now) c.after-page.ensures
    ∙ ap (λ (ps : List (List Record)). filter (λ r. nat_lt c.args.num r.num) c.index-pages-at.result ++ records_in ps) (c.pages_behind-pages.ensures ∙ ap (λ k. drop k c.args.pages.now) (add-one c.page_of-at.result))
    ∙ ap (λ (p : List Record). filter (λ r. nat_lt c.args.num r.num) p ++ records_in (drop (suc c.page_of-at.result) c.args.pages.now)) c.index-pages-at.is
    ∙ after_page c.args.num c.args.pages.now c.page_of-at.result c.index-pages-at.result c.requires.order fits
