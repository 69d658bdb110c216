use Rattle.std.proofs.Common.{◌≤◌, ◌<◌, ◌∙◌, sym, arith, length}
use Rattle.std.proofs.lemmas.Bool.Decides.{nat_tests}
use Rattle.state_forest.proofs.PageEdits.{found_none, page_ascends, page_found}
use Rattle.state_forest.proofs.PageOrder.{all_lesser, page_fits}
use Rattle.state_forest.proofs.pages.numbered_in.Goals as goal

pub numbered-requires : goal.numbered-requires
numbered-requires c =
    let test = c.in-Some.ensures.lookup.0 in
    let within : c.page_of.result < length c.args.pages.now = grind (arith, nat_tests, test) in
    page_ascends c.args.pages.now c.page_of.result c.in-Some.page.now within c.in-Some.ensures.lookup.1 c.requires.order

pub returns-in-Some : goal.returns-in-Some
returns-in-Some c =
    let test = c.in-Some.ensures.lookup.0 in
    let within : c.page_of.result < length c.args.pages.now = grind (arith, nat_tests, test) in
    let fits = page_fits c.args.num c.args.pages.now c.page_of.result c.requires.order c.requires.last within c.page_of.ensures in
    c.numbered.ensures ∙ sym (page_found c.args.num c.args.pages.now c.page_of.result c.in-Some.page.now c.in-Some.ensures.lookup.1 fits)

pub returns-in-None : goal.returns-in-None
returns-in-None c =
    let test = c.in-None.ensures.lookup.0 in
    let past : length c.args.pages.now ≤ c.page_of.result = grind (arith, nat_tests, test) in
    sym (found_none c.args.num _ (all_lesser c.args.num c.args.pages.now c.page_of.result c.requires.order c.requires.last past c.page_of.ensures))
