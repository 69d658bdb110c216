use Rattle.std.proofs.Common.{◌≡◌, ◌+◌, [], ◌∙◌, sym, ap, subst, arith, length}
use Rattle.std.proofs.lemmas.List.{get_or_default, get_or-set_same}
use Rattle.state_forest.specs.Pages.{IsSeat, Reaches, lies_below}
use Rattle.state_forest.proofs.PageEdits.{ascends_on, fits_length}
use Rattle.state_forest.proofs.PageHalves.{halved, popped, seat_lower, seat_upper}
use Rattle.state_forest.proofs.pages.seat_on_half.Goals as goal
use Rattle.state_forest.proofs.pages.seat_on_half.Goals.{then-lies_below, else-lies_below}

pub index_mut-requires : goal.index_mut-requires
index_mut-requires c =
    let off = popped c.args.num c.args.at c.args.pages.now.items c.pop.new.self.items c.in-Some.upper c.in-Some.ensures.items c.requires.last c.requires.spare c.requires.full in
    omega (arith, off.within, c.pop.new.self.ok)

pub part-requires-clause-full : goal.part-requires-clause-full
part-requires-clause-full c =
    let off = popped c.args.num c.args.at c.args.pages.now.items c.pop.new.self.items c.in-Some.upper c.in-Some.ensures.items c.requires.last c.requires.spare c.requires.full in
    ap length (c.index_mut.ensures.value ∙ get_or_default c.pop.new.self.items c.args.at c.index_mut.result.now [] off.within ∙ off.same) ∙ c.requires.full

pub part-requires-clause-empty : goal.part-requires-clause-empty
part-requires-clause-empty c =
    let off = popped c.args.num c.args.at c.args.pages.now.items c.pop.new.self.items c.in-Some.upper c.in-Some.ensures.items c.requires.last c.requires.spare c.requires.full in
    off.empty

pub index-requires : goal.index-requires
index-requires c =
    let off = popped c.args.num c.args.at c.args.pages.now.items c.pop.new.self.items c.in-Some.upper c.in-Some.ensures.items c.requires.last c.requires.spare c.requires.full in
    omega (arith, off.within, c.pop.new.self.ok)

pub insert_page-requires-clause-within : goal.insert_page-requires-clause-within
insert_page-requires-clause-within c =
    let off = popped c.args.num c.args.at c.args.pages.now.items c.pop.new.self.items c.in-Some.upper c.in-Some.ensures.items c.requires.last c.requires.spare c.requires.full in
    omega (arith, off.within, c.pop.new.self.ok)

pub returns-clause-seat : goal.returns-clause-seat
returns-clause-seat c =
    let off = popped c.args.num c.args.at c.args.pages.now.items c.pop.new.self.items c.in-Some.upper c.in-Some.ensures.items c.requires.last c.requires.spare c.requires.full in
    let within = fits_length c.args.num c.args.pages.now.items c.args.at c.requires.fits in
    let is = c.index_mut.ensures.value ∙ get_or_default c.pop.new.self.items c.args.at c.index_mut.result.now [] off.within ∙ off.same in
    let parts = halved c.args.num c.args.at c.args.pages.now.items c.pop.new.self.items c.in-Some.upper c.part.new.self c.part.new.upper off c.requires.last c.requires.fits (ascends_on c.args.pages.now.items c.args.at [] within c.requires.order) (c.part.ensures.records ∙ is) c.part.ensures.lower c.part.ensures.upper in
    let lower = c.index.ensures ∙ get_or-set_same c.pop.new.self.items c.args.at c.part.new.self c.index.result.now off.within in
    let test : lies_below c.args.num c.part.new.self ≡ c.lies_below.result = sym (ap (lies_below c.args.num) lower) ∙ sym c.lies_below.ensures in
    elim c.if-lies_below.branch [
      | then-lies_below w ↦
          subst (λ k. IsSeat c.args.num k c.args.pages.now.items c.insert_page.new.pages.items) (sym w.seat-is)
          (subst (IsSeat c.args.num (c.args.at + 1) c.args.pages.now.items) (sym c.insert_page.ensures.items)
          (seat_upper c.args.num c.args.at c.args.pages.now.items c.pop.new.self.items c.part.new.self c.part.new.upper off.is parts (subst (Reaches c.args.num) (sym off.same) c.requires.reached) (test ∙ w.if-lies_below.true)))
      | else-lies_below w ↦
          subst (λ k. IsSeat c.args.num k c.args.pages.now.items c.insert_page.new.pages.items) (sym w.seat-is)
          (subst (IsSeat c.args.num c.args.at c.args.pages.now.items) (sym c.insert_page.ensures.items)
          (seat_lower c.args.num c.args.at c.args.pages.now.items c.pop.new.self.items c.part.new.self c.part.new.upper off.is parts (test ∙ w.if-lies_below.false)))
    ]
