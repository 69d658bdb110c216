use Rattle.std.proofs.Common.{length, rules, subst, sym, true, List, ◌<◌}
use Rattle.node_schedule.specs.Listing.{IsBrought}
use Rattle.node_schedule.specs.Named.{AllKept, IsKept}
use Rattle.node_schedule.specs.declared.slip.Slip.{Slip}
use Rattle.node_schedule.proofs.Brought.{brought_at, swapped_all}
use Rattle.node_schedule.proofs.schedule.bring.Goals as goal

pub returns-clause-kept : goal.returns-clause-kept
returns-clause-kept c = λ test kept.
    let a : c.args.place < length c.place_or_new.new.slips.items = search rules in
    let b : c.in-Some.found < length c.place_or_new.new.slips.items = search rules in
    subst (λ (slips : List Slip). AllKept test slips) (sym c.swap.ensures.items) (swapped_all (IsKept test) c.place_or_new.new.slips.items c.args.place c.in-Some.found a b (c.place_or_new.ensures.kept test kept))

pub returns-clause-brought : goal.returns-clause-brought
returns-clause-brought c =
    let a : c.args.place < length c.place_or_new.new.slips.items = search rules in
    let b : c.in-Some.found < length c.place_or_new.new.slips.items = search rules in
    subst (λ (slips : List Slip). IsBrought c.args.place c.args.who c.args.slips.now.items slips true) (sym c.swap.ensures.items)
    (brought_at c.args.place c.in-Some.found c.args.who c.args.slips.now.items c.place_or_new.new.slips.items c.in-Some.ensures.placed a b)
