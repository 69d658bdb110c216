use Rattle.std.proofs.Common.{ap, arith, length, rules, subst, sym, true, IfSome, ℕ, Option, Some, ◌≡◌, ◌∙◌, ◌<◌}
use Rattle.std.proofs.lemmas.List.Elements.{All-set}
use Rattle.wire_callbacks.specs.declared.duty.Duty.{Duty}
use Rattle.node_schedule.specs.Calling.{Calling}
use Rattle.node_schedule.specs.Named.{AllKept, AllNamed, AllWaiting, IsKept, Passes}
use Rattle.node_schedule.specs.Pausing.{IsMissed, IsTold, missed, slip_at}
use Rattle.node_schedule.specs.Plights.{vain_after}
use Rattle.node_schedule.specs.Slips.{IsPaused, called_of, place_of}
use Rattle.node_schedule.specs.Turns.{Turns}
use Rattle.node_schedule.proofs.Latest.{forgotten_names, missed_listed, newest_passes}
use Rattle.node_schedule.proofs.Places.{stood_at}
use Rattle.node_schedule.specs.declared.plight.Vain.{Vain}
use Rattle.node_schedule.specs.declared.slip.Slip.{Slip}
use Rattle.node_schedule.proofs.schedule.Schedule.vain.Goals as goal

pub returns-clause-named : goal.returns-clause-named
returns-clause-named c = λ test all added.
    let inside = subst (AllNamed test) (sym c.self.view_is) all in
    let within : c.in_ok-place.place < length c.self.inside.slips.items = search rules in
    let brought = subst (IsKept test) (sym c.index_mut.ensures.value) (inside.kept c.in_ok-place.place c.index_mut.result.now within) in
    let passes = newest_passes test c.index_mut.result.now.kept c.into_duty-duty.result brought (λ _. subst (Passes test) (sym c.into_duty-duty.ensures) (added 0 c.args.due (omega arith))) in
    let last = subst (λ kept. IfSome kept (Passes test)) (sym c.pause_in_vain-until.ensures.kept) passes in
    let kept = All-set (IsKept test) c.self.inside.slips.items c.in_ok-place.place c.pause_in_vain-until.new.self last inside.kept in
    record {
      waiting = subst (λ (now : Turns). AllWaiting test now.hosts) (sym c.resume_by.ensures.hosts) inside.waiting;
      kept = subst (AllKept test) (sym c.resume_by.ensures.slips) kept;
    }

pub returns-then-not-index-clause-named : goal.returns-then-not-index-clause-named
returns-then-not-index-clause-named c = λ test all added.
    subst (AllNamed test) (sym c.forget.ensures) (forgotten_names test c.of-then-not-index.result c.args.self.now all)

pub returns-clause-missed : goal.returns-clause-missed
returns-clause-missed c =
    let Missed = λ (at : Option ℕ) (old : Calling). IsMissed at c.into_duty-duty.result c.args.came c.args.now old c.resume_by.new.self c.tell-plight.result in
    let at : Some c.in_ok-place.place ≡ place_of (called_of c.into_duty-duty.result) c.self.inside.slips.items = search rules in
    let within : c.in_ok-place.place < length c.self.inside.slips.items = search rules in
    let counted : c.after-vain.result ≡ vain_after (slip_at c.self.inside.slips.items c.in_ok-place.place).vain c.args.came c.args.now =
    c.after-vain.ensures ∙ ap (λ (slip : Slip). vain_after slip.vain c.args.came c.args.now) (stood_at c.self.inside.slips.items c.in_ok-place.place c.index-2.result.now within c.index-2.ensures) in
    let listed : (slip_at c.self.inside.slips.items c.in_ok-place.place).is_listed ≡ true =
    ap (λ (slip : Slip). slip.is_listed) (sym (stood_at c.self.inside.slips.items c.in_ok-place.place c.index.result.now within c.index.ensures)) ∙ c.if-not-index.false in
    let old : c.index_mut.result.now ≡ slip_at c.self.inside.slips.items c.in_ok-place.place =
    stood_at c.self.inside.slips.items c.in_ok-place.place c.index_mut.result.now within c.index_mut.ensures.value in
    let new : c.pause_in_vain-until.new.self ≡ slip_at c.resume_by.new.self.slips c.in_ok-place.place = search rules in
    subst (λ (duty : Duty). IsMissed (place_of (called_of duty) c.args.self.now.slips) duty c.args.came c.args.now c.args.self.now c.resume_by.new.self c.tell-plight.result) c.into_duty-duty.ensures
    (subst (λ (old : Calling). Missed (place_of (called_of c.into_duty-duty.result) old.slips) old) c.self.view_is
    (subst (λ (at : Option ℕ). Missed at (record { now = c.self.inside.hosts; slips = c.self.inside.slips.items; resumes_at = c.self.inside.resumes_at })) at
    (missed_listed c.into_duty-duty.result c.args.came c.args.now (record { now = c.self.inside.hosts; slips = c.self.inside.slips.items; resumes_at = c.self.inside.resumes_at }) c.resume_by.new.self c.tell-plight.result
    c.in_ok-place.place listed (record {
      vain = c.tell-plight.new.self;
      told = subst (λ (counted : Vain). IsTold c.into_duty-duty.result c.args.now counted c.tell-plight.new.self c.tell-plight.result) counted
          (record { due = c.tell-plight.ensures.due; told = c.tell-plight.ensures.told; untold = c.tell-plight.ensures.untold });
      pauses = record {
        until = c.pause_in_vain-until.result;
        paused = subst (λ (slip : Slip). IsPaused c.pause_in_vain-until.result (missed c.into_duty-duty.result c.tell-plight.new.self (slip_at c.self.inside.slips.items c.in_ok-place.place)) slip) new
            (subst (λ (slip : Slip). IsPaused c.pause_in_vain-until.result (missed c.into_duty-duty.result c.tell-plight.new.self slip) c.pause_in_vain-until.new.self) old c.pause_in_vain-until.ensures.paused);
        time = search rules;
        others = search rules;
        resumes = search rules;
        hosts = search rules;
      };
    }))))
