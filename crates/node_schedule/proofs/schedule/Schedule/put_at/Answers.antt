use Rattle.std.proofs.Common.{arith, false, length, refl, slice_set, subst, sym, true, Bool, ◌≡◌, ◌≤◌}
use Rattle.std.proofs.lemmas.List.Elements.{All-set}
use Rattle.node_schedule.specs.Named.{AllNamed, IsKept}
use Rattle.node_schedule.specs.Calling.{Calling}
use Rattle.node_schedule.specs.Entering.{IsEntered}
use Rattle.node_schedule.specs.Listing.{IsBrought, PutsOne}
use Rattle.node_schedule.specs.Pausing.{slip_at}
use Rattle.node_schedule.specs.Slips.{called_of}
use Rattle.node_schedule.specs.declared.slip.Called.{Called}
use Rattle.node_schedule.specs.declared.slip.Slip.{Slip}
use Rattle.node_schedule.proofs.Places.{stood_at}
use Rattle.node_schedule.proofs.Entered.{enters}
use Rattle.node_schedule.proofs.Puts.{puts_none, puts_one}
use Rattle.node_schedule.proofs.schedule.Schedule.put_at.Goals as goal

pub returns-clause-named : goal.returns-clause-named
returns-clause-named c = λ test all added.
    let inside = subst (AllNamed test) (sym c.self.view_is) all in
    let kept = c.bring.ensures.kept test inside.kept in
    let found = kept c.args.place c.index_mut.result.now (c.bring.ensures.within c.if-not-bring.false) in
    let entered = c.enter.ensures.named test (added 0 c.args.duty (omega arith)) (subst (IsKept test) (sym c.index_mut.ensures.value) found) inside.waiting in
    record { waiting = entered.1; kept = All-set (IsKept test) c.bring.new.slips.items c.args.place c.enter.new.slip entered.0 kept }

pub returns-clause-puts : goal.returns-clause-puts
returns-clause-puts c = λ who.
    let new : Calling = record { now = c.enter.new.hosts; slips = slice_set c.bring.new.slips.items c.args.place c.enter.new.slip; resumes_at = c.self.inside.resumes_at } in
    let brought : IsBrought c.args.place (called_of c.args.duty) c.self.inside.slips.items c.bring.new.slips.items true =
    subst (λ (who : Called). IsBrought c.args.place who c.self.inside.slips.items c.bring.new.slips.items true) c.of.ensures
    (subst (λ (b : Bool). IsBrought c.args.place c.of.result c.self.inside.slips.items c.bring.new.slips.items b) c.if-not-bring.false c.bring.ensures.brought) in
    let old_is : c.index_mut.result.now ≡ slip_at c.bring.new.slips.items c.args.place = stood_at c.bring.new.slips.items c.args.place c.index_mut.result.now (brought.there refl).0 c.index_mut.ensures.value in
    subst (λ (old : Calling). c.args.place ≤ length old.slips → PutsOne c.args.now c.args.duty c.args.place who old new c.enter.result) c.self.view_is
    (λ room. puts_one c.args.now c.args.duty c.args.place who
    (record { now = c.self.inside.hosts; slips = c.self.inside.slips.items; resumes_at = c.self.inside.resumes_at }) new
    c.bring.new.slips.items c.enter.new.slip c.enter.result room (record {
      brought = brought;
      is = refl;
      enters = enters c.args.now c.args.duty (slip_at c.bring.new.slips.items c.args.place) c.enter.new.slip c.self.inside.hosts c.enter.new.hosts c.enter.result (brought.there refl).1
          (subst (λ (old : Slip). IsEntered c.args.now c.args.duty old c.enter.new.slip c.self.inside.hosts c.enter.new.hosts c.enter.result) old_is c.enter.ensures.entered);
    }))

pub returns-then-not-bring-clause-puts : goal.returns-then-not-bring-clause-puts
returns-then-not-bring-clause-puts c = λ who.
    subst (λ (old : Calling). c.args.place ≤ length old.slips → PutsOne c.args.now c.args.duty c.args.place who old
    (record { now = c.self.inside.hosts; slips = c.bring.new.slips.items; resumes_at = c.self.inside.resumes_at }) false) c.self.view_is
    (λ room. puts_none c.args.now c.args.duty c.args.place who
    (record { now = c.self.inside.hosts; slips = c.self.inside.slips.items; resumes_at = c.self.inside.resumes_at })
    (record { now = c.self.inside.hosts; slips = c.bring.new.slips.items; resumes_at = c.self.inside.resumes_at }) room refl
    (subst (λ (who : Called). IsBrought c.args.place who c.self.inside.slips.items c.bring.new.slips.items false) c.of.ensures
    (subst (λ (b : Bool). IsBrought c.args.place c.of.result c.self.inside.slips.items c.bring.new.slips.items b) c.if-not-bring.true c.bring.ensures.brought)))
