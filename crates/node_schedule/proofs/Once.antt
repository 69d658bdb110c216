-- Why each participant is there only once, so that none has two calls at a time.
use Rattle.std.proofs.Common.{◌≡◌, ◌≤◌, ◌<◌, ◌+◌, ◌&&◌, ◌∙◌, ℕ, Bool, true, false, List, Option, Some, None, ap, arith, cond, length, map, not, refl, rules, slice_set, subst, sym}
use Rattle.std.proofs.lemmas.Bool.{and_left as and_no}
use Rattle.std.proofs.lemmas.List.Sums.{sum_by-cons, sum_by-set}
use Rattle.std.specs.List.{count_by}
use Rattle.std.specs.Prelude.{MatchBool, if◌then◌else◌}
use Rattle.wire_callbacks.specs.declared.duty.Duty.{Duty}
use Rattle.node_schedule.specs.Calling.{Calling, IsTakenFrom, forgotten, nothing}
use Rattle.node_schedule.specs.Once.{BeginsOnce, HasEachOnce, IsBeingCalled, LeavesOthers, calls_of, dues_of, duties_for, is_for, is_of, is_stray, slips_of, waits_of}
use Rattle.node_schedule.specs.Pausing.{IsBusyAt, IsFound, IsMissed, IsMissedAt, PausesAt, cleared, found, missed, newest, nobody, slip_at}
use Rattle.node_schedule.specs.Slips.{begun_to, called_of, is_called, is_called_in, place_of, same_called, standing, waits, waits_in, without}
use Rattle.node_schedule.specs.Turns.{AtHost, BeginsAt, IsNext, Turns, changed_at, host_at, is_host_of, nowhere, with_end, with_hosts}
use Rattle.node_schedule.specs.Turns.{place_of as host_place}
use Rattle.node_schedule.specs.declared.pace.Pace.{Pace}
use Rattle.node_schedule.specs.declared.plight.CallFailure.{CallFailure}
use Rattle.node_schedule.specs.declared.plight.Plight.{Plight}
use Rattle.node_schedule.specs.declared.plight.Vain.{Vain}
use Rattle.std.specs.Option.{option_map_or}
use Rattle.std.specs.declared.time.Duration.{Duration}
use Rattle.node_schedule.specs.declared.slip.Called.{Called}
use Rattle.node_schedule.specs.declared.slip.Slip.{Slip}
use Rattle.node_schedule.specs.declared.slip.SlipState.{SlipState}
use Rattle.node_schedule.specs.declared.slip.SlipState.TheVariants.{IsCalled, Pauses, Waits}
use Rattle.node_schedule.proofs.Counts.{called_is, called_self, counts_mapped, filter_below, filter_keeps, found_in, sums_alike, sums_below, sums_mapped}

-- a test as a number
abbrev pub bit : Bool → ℕ
bit b = cond b 1 0

-- a slip waits or is called, but not both
one_of_both : (who : Called) (stand : SlipState) (slip : Slip) (b : Bool) → slip.stand ≡ stand → is_of who slip ≡ b
    → bit (b && waits (standing stand slip)) + bit (b && is_called (standing stand slip)) ≤ bit b
one_of_both who Waits slip true e is = omega arith
one_of_both who IsCalled slip true e is = omega arith
one_of_both who (Pauses until) slip true e is = omega arith
one_of_both who stand slip false e is = omega arith

pub apart : (who : Called) (slips : List Slip) → waits_of who slips + calls_of who slips ≤ slips_of who slips
apart who slips =
    sums_below (λ (slip : Slip). bit (is_of who slip && waits slip)) (λ (slip : Slip). bit (is_of who slip && is_called slip)) (λ (slip : Slip). bit (is_of who slip))
    (λ slip. one_of_both who slip.stand slip (is_of who slip) refl refl) slips

-- of two slips, the one whose call begins
begun_slip : (who : Called) (b : Bool) (slip : Slip) → is_of who (if b then standing IsCalled slip else slip) ≡ is_of who slip
begun_slip who true slip = refl
begun_slip who false slip = refl

begun_stray : (b : Bool) (slip : Slip) → is_stray (if b then standing IsCalled slip else slip) ≡ is_stray slip
begun_stray true slip = refl
begun_stray false slip = refl

begun_other : (who other : Called) (f : Slip → Bool) (b : Bool) (slip : Slip) → same_called who other ≡ false → same_called slip.who who ≡ b
    → (is_of other (if b then standing IsCalled slip else slip) && f (if b then standing IsCalled slip else slip)) ≡ (is_of other slip && f slip)
begun_other who other f true slip differs e =
    let not_it : is_of other slip ≡ false = ap (λ (w : Called). same_called w other) (called_is slip.who who e) ∙ differs in
    and_no (is_of other (standing IsCalled slip)) (f (standing IsCalled slip)) not_it ∙ sym (and_no (is_of other slip) (f slip) not_it)
begun_other who other f false slip differs e = refl

begun_calls : (who : Called) (b : Bool) (slip : Slip) → same_called slip.who who ≡ b
    → (is_of who (if b then standing IsCalled slip else slip) && is_called (if b then standing IsCalled slip else slip)) ≡ is_of who slip
begun_calls who true slip e = ap (λ (b : Bool). b && true) e ∙ sym e
begun_calls who false slip e = and_no (is_of who slip) (is_called slip) e ∙ sym e

slips_begun : (who other : Called) (slips : List Slip) → slips_of other (map (begun_to who) slips) ≡ slips_of other slips
slips_begun who other slips = counts_mapped (is_of other) (begun_to who) (λ slip. begun_slip other (same_called slip.who who) slip) slips

stray_begun : (who : Called) (slips : List Slip) → count_by is_stray (map (begun_to who) slips) ≡ count_by is_stray slips
stray_begun who slips = counts_mapped is_stray (begun_to who) (λ slip. begun_stray (same_called slip.who who) slip) slips

pub others_begun : (who other : Called) (f : Slip → Bool) (slips : List Slip) → same_called who other ≡ false
    → count_by (λ (slip : Slip). is_of other slip && f slip) (map (begun_to who) slips) ≡ count_by (λ (slip : Slip). is_of other slip && f slip) slips
others_begun who other f slips differs =
    counts_mapped (λ (slip : Slip). is_of other slip && f slip) (begun_to who) (λ slip. begun_other who other f (same_called slip.who who) slip differs refl) slips

all_called_begun : (who : Called) (slips : List Slip) → calls_of who (map (begun_to who) slips) ≡ slips_of who slips
all_called_begun who slips =
    sums_mapped (λ (slip : Slip). bit (is_of who slip && is_called slip)) (begun_to who) slips
    ∙ sums_alike (λ (slip : Slip). bit (is_of who (begun_to who slip) && is_called (begun_to who slip))) (λ (slip : Slip). bit (is_of who slip))
    (λ slip. ap {B = ℕ} bit (begun_calls who (same_called slip.who who) slip refl)) slips

-- the duty that is taken waited at its host
dues_taken : (who : Called) (place : ℕ) (duty : Duty) (old new : Turns) → place < length old.hosts → BeginsAt place duty old new
    → dues_of who new.hosts + bit (is_for who duty) ≡ dues_of who old.hosts
dues_taken who place duty old new within begins =
    let f : AtHost → ℕ = λ host. duties_for who host.due in
    let set : dues_of who new.hosts ≡ dues_of who (slice_set old.hosts place (host_at new.hosts place)) = ap (dues_of who) begins.others in
    let first : duties_for who (host_at old.hosts place).due ≡ bit (is_for who duty) + duties_for who (host_at new.hosts place).due =
    ap (duties_for who) begins.begins.first ∙ sum_by-cons (λ (d : Duty). bit (is_for who d)) duty (host_at new.hosts place).due in
    omega (arith, set, first, sum_by-set f old.hosts place (host_at new.hosts place) nowhere within)

next_within : (now : Turns) (place : ℕ) → IsNext now (Some place) → place < length now.hosts
next_within now place next = search rules

record Numbers (who : Called) (duty : Duty) (old new : Calling) : Type 0 where
  dues : dues_of who new.now.hosts + bit (is_for who duty) ≡ dues_of who old.now.hosts
  slips : slips_of who new.slips ≡ slips_of who old.slips

numbers : (who : Called) (duty : Duty) (old new : Calling) → IsTakenFrom old new (Some duty) → Numbers who duty old new
numbers who duty old new taken = record {
  dues = dues_taken who taken.hosts.0 duty old.now new.now (next_within old.now taken.hosts.0 taken.hosts.1) taken.hosts.2;
  slips = ap (slips_of who) taken.slips ∙ slips_begun (called_of duty) who old.slips;
}

-- a participant whose call begins was not being called, and waited
pub begins_once : (old new : Calling) (duty : Duty) → HasEachOnce old → IsTakenFrom old new (Some duty) → BeginsOnce (called_of duty) old new
begins_once old new duty once taken =
    let who = called_of duty in
    let n = numbers who duty old new taken in
    let is : bit (is_for who duty) ≡ 1 = ap {B = ℕ} bit (called_self who) in
    record {
      before = omega (arith, n.dues, is, apart who old.slips, once.slips who, once.waits who);
      after = omega (arith, ap (calls_of who) taken.slips, all_called_begun who old.slips, n.dues, is, apart who old.slips, once.slips who, once.waits who);
      others = λ other differs. ap (calls_of other) taken.slips ∙ others_begun who other is_called old.slips differs;
    }

waits_taken : (old new : Calling) (duty : Duty) (who : Called) (b : Bool) → is_for who duty ≡ b → HasEachOnce old → IsTakenFrom old new (Some duty)
    → dues_of who new.now.hosts ≤ waits_of who new.slips
waits_taken old new duty who true e once taken =
    let n = numbers who duty old new taken in
    omega (arith, n.dues, ap {B = ℕ} bit e, apart who old.slips, once.slips who, once.waits who)
waits_taken old new duty who false e once taken =
    let n = numbers who duty old new taken in
    omega (arith, n.dues, ap {B = ℕ} bit e, once.waits who, ap (waits_of who) taken.slips, others_begun (called_of duty) who waits old.slips e)

pub once_taken : (old new : Calling) (duty : Duty) → HasEachOnce old → IsTakenFrom old new (Some duty) → HasEachOnce new
once_taken old new duty once taken = record {
  slips = λ who. let n = numbers who duty old new taken in omega (arith, n.slips, once.slips who);
  waits = λ who. waits_taken old new duty who (is_for who duty) refl once taken;
  kept = ap (count_by is_stray) taken.slips ∙ stray_begun (called_of duty) old.slips ∙ once.kept;
}

-- the slip that changes
abbrev pub as_many : (Slip → Bool) → List Slip → Slip → List Slip → Slip → Type 0
as_many test old slip new changed = count_by test new + bit (test slip) ≡ count_by test old + bit (test changed)

pub set_counts : (test : Slip → Bool) (old new : List Slip) (place : ℕ) (changed : Slip) → place < length old → new ≡ slice_set old place changed
    → as_many test old (slip_at old place) new changed
set_counts test old new place changed within is =
    omega (arith, ap (count_by test) is, sum_by-set (λ (slip : Slip). bit (test slip)) old place changed nobody within)

-- a participant that is being called doesn't wait at a host
idle : (who : Called) (calling : Calling) → HasEachOnce calling → IsBeingCalled who calling → dues_of who calling.now.hosts ≡ 0
idle who calling once called = omega (arith, once.slips who, once.waits who, apart who calling.slips, called)

-- a participant that goes from a call to a pause
pub record PausesOne (who : Called) (place : ℕ) (old new : Calling) : Type 0 where
  pub slip : Slip
  pub within : place < length old.slips
  pub was : (slip_at old.slips place).who ≡ who
  pub is : slip.who ≡ who
  pub waits : waits slip ≡ false
  pub called : is_called slip ≡ false
  pub kept : bit (is_stray slip) ≤ bit (is_stray (slip_at old.slips place))
  pub slips : new.slips ≡ slice_set old.slips place slip
  pub hosts : new.now ≡ old.now

paused_slips : (who other : Called) (place : ℕ) (old new : Calling) → PausesOne who place old new → slips_of other new.slips ≡ slips_of other old.slips
paused_slips who other place old new p =
    omega (
      arith,
      set_counts (is_of other) old.slips new.slips place p.slip p.within p.slips,
      ap {B = ℕ} (λ (w : Called). bit (same_called w other)) (p.was ∙ sym p.is),
    )

paused_other : (who other : Called) (f : Slip → Bool) (place : ℕ) (old new : Calling) → same_called who other ≡ false → PausesOne who place old new
    → count_by (λ (slip : Slip). is_of other slip && f slip) new.slips ≡ count_by (λ (slip : Slip). is_of other slip && f slip) old.slips
paused_other who other f place old new differs p =
    omega (
      arith,
      set_counts (λ (slip : Slip). is_of other slip && f slip) old.slips new.slips place p.slip p.within p.slips,
      ap {B = ℕ} bit (and_no (is_of other p.slip) (f p.slip) (ap (λ (w : Called). same_called w other) p.is ∙ differs)),
      ap {B = ℕ} bit (and_no (is_of other (slip_at old.slips place)) (f (slip_at old.slips place)) (ap (λ (w : Called). same_called w other) p.was ∙ differs)),
    )

paused_waits : (who other : Called) (b : Bool) → same_called who other ≡ b → (place : ℕ) (old new : Calling) → HasEachOnce old → IsBeingCalled who old → PausesOne who place old new
    → dues_of other new.now.hosts ≤ waits_of other new.slips
paused_waits who other true e place old new once called p =
    let none : dues_of other old.now.hosts ≡ 0 = subst (λ (w : Called). dues_of w old.now.hosts ≡ 0) (called_is who other e) (idle who old once called) in
    omega (arith, none, ap (λ (now : Turns). dues_of other now.hosts) p.hosts)
paused_waits who other false e place old new once called p =
    omega (arith, once.waits other, ap (λ (now : Turns). dues_of other now.hosts) p.hosts, paused_other who other waits place old new e p)

pub once_paused : (who : Called) (place : ℕ) (old new : Calling) → HasEachOnce old → IsBeingCalled who old → PausesOne who place old new → HasEachOnce new
once_paused who place old new once called p = record {
  slips = λ other. omega (arith, paused_slips who other place old new p, once.slips other);
  waits = λ other. paused_waits who other (same_called who other) refl place old new once called p;
  kept = omega (arith, set_counts is_stray old.slips new.slips place p.slip p.within p.slips, p.kept, once.kept);
}

pub others_paused : (who : Called) (place : ℕ) (old new : Calling) → PausesOne who place old new
    → (other : Called) → same_called who other ≡ false → calls_of other new.slips ≡ calls_of other old.slips
others_paused who place old new p other differs = paused_other who other is_called place old new differs p

-- the slip that a search for a participant returns is that participant's
pub found_slip : (who : Called) (place : ℕ) (slips : List Slip) → place_of who slips ≡ Some place → (place < length slips) × ((slip_at slips place).who ≡ who)
found_slip who place slips e =
    let f = found_in (is_of who) 0 place slips nobody e in
    let same : f.behind ≡ place = omega (arith, f.is) in
    (omega (arith, f.within, same), subst (λ (k : ℕ). (slip_at slips k).who ≡ who) same (called_is (slip_at slips f.behind).who who f.passes))

pub not_stray : (duty : Duty) (slip : Slip) → slip.kept ≡ Some duty → slip.who ≡ called_of duty → is_stray slip ≡ false
not_stray duty slip kept is =
    ap (λ (k : Option Duty). not (option_map_or (is_for slip.who) k true)) kept
    ∙ ap (λ (w : Called). not (same_called (called_of duty) w)) is ∙ ap not (called_self (called_of duty))

pub none_stray : (slip : Slip) → slip.kept ≡ None → is_stray slip ≡ false
none_stray slip kept = ap (λ (k : Option Duty). not (option_map_or (is_for slip.who) k true)) kept

pub busy_pauses : (who : Called) (now : Duration) (place : ℕ) (old new : Calling) → place_of who old.slips ≡ Some place → PausesAt place now cleared old new → PausesOne who place old new
busy_pauses who now place old new e p = let found = found_slip who place old.slips e in record {
  slip = slip_at new.slips place;
  within = found.0;
  was = found.1;
  is = p.paused.who ∙ found.1;
  waits = ap waits_in p.paused.stand;
  called = ap is_called_in p.paused.stand;
  kept = omega (arith, ap {B = ℕ} bit (none_stray (slip_at new.slips place) p.paused.kept));
  slips = p.others;
  hosts = p.hosts;
}

-- what a list brought is for the slip's own participant, as before; otherwise the duty is
newest_stray : (duty : Duty) (old new : Slip) (brought : Option Duty) → old.kept ≡ brought → new.kept ≡ Some (newest brought duty) → new.who ≡ old.who → old.who ≡ called_of duty
    → bit (is_stray new) ≤ bit (is_stray old)
newest_stray duty old new None was is same its = omega (arith, ap {B = ℕ} bit (not_stray duty new is (same ∙ its)))
newest_stray duty old new (Some newer) was is same its =
    let alike : is_stray new ≡ is_stray old =
    ap (λ (k : Option Duty). not (option_map_or (is_for new.who) k true)) (is ∙ sym was) ∙ ap (λ (w : Called). not (option_map_or (is_for w) old.kept true)) same in
    omega (arith, ap {B = ℕ} bit alike)

pub missed_pauses : (duty : Duty) (vain : Vain) (now : Duration) (place : ℕ) (old new : Calling) → place_of (called_of duty) old.slips ≡ Some place → PausesAt place now (missed duty vain) old new
    → PausesOne (called_of duty) place old new
missed_pauses duty vain now place old new e p = let found = found_slip (called_of duty) place old.slips e in record {
  slip = slip_at new.slips place;
  within = found.0;
  was = found.1;
  is = p.paused.who ∙ found.1;
  waits = ap waits_in p.paused.stand;
  called = ap is_called_in p.paused.stand;
  kept = newest_stray duty (slip_at old.slips place) (slip_at new.slips place) (slip_at old.slips place).kept refl p.paused.kept p.paused.who found.1;
  slips = p.others;
  hosts = p.hosts;
}

busy_at : (who : Called) (now : Duration) (old new : Calling) (at : Option ℕ) → place_of who old.slips ≡ at → IsBusyAt at now old new
    → (IsBeingCalled who old → HasEachOnce old → HasEachOnce new) × LeavesOthers who old new
busy_at who now old new None e same = ((λ called once. subst HasEachOnce (sym same) once), λ other differs. ap (λ (c : Calling). calls_of other c.slips) same)
busy_at who now old new (Some place) e p =
    let pauses = busy_pauses who now place old new e p in
    ((λ called once. once_paused who place old new once called pauses), others_paused who place old new pauses)

pub busy_once : (who : Called) (now : Duration) (old new : Calling) → IsBusyAt (place_of who old.slips) now old new
    → (IsBeingCalled who old → HasEachOnce old → HasEachOnce new) × LeavesOthers who old new
busy_once who now old new p = busy_at who now old new (place_of who old.slips) refl p

-- a participant that was heard from stands as it stood
pub found_counts : (test : Slip → Bool) → ((slip : Slip) → test (found slip) ≡ test slip) → (duty : Duty) (now : Duration) (old new : Calling) (plight : Option Plight) (at : Option ℕ)
    → place_of (called_of duty) old.slips ≡ at → IsFound at duty now old new plight → count_by test new.slips ≡ count_by test old.slips
found_counts test each duty now old new plight None e same = ap (λ (c : Calling). count_by test c.slips) same.0
found_counts test each duty now old new plight (Some place) e p =
    omega (
      arith,
      set_counts test old.slips new.slips place (found (slip_at old.slips place)) (found_slip (called_of duty) place old.slips e).0 (ap (λ (c : Calling). c.slips) p.changes),
      ap {B = ℕ} bit (each (slip_at old.slips place)),
    )

found_hosts : (duty : Duty) (now : Duration) (old new : Calling) (plight : Option Plight) (at : Option ℕ) → IsFound at duty now old new plight → new.now ≡ old.now
found_hosts duty now old new plight None same = ap (λ (c : Calling). c.now) same.0
found_hosts duty now old new plight (Some place) p = ap (λ (c : Calling). c.now) p.changes

pub found_once : (duty : Duty) (now : Duration) (old new : Calling) (plight : Option Plight) → IsFound (place_of (called_of duty) old.slips) duty now old new plight
    → (HasEachOnce old → HasEachOnce new) × ((other : Called) → calls_of other new.slips ≡ calls_of other old.slips)
found_once duty now old new plight p =
    let at = place_of (called_of duty) old.slips in
    let same = λ (test : Slip → Bool) (each : (slip : Slip) → test (found slip) ≡ test slip). found_counts test each duty now old new plight at refl p in (
      (λ once. record {
        slips = λ who. omega (arith, same (is_of who) (λ slip. refl), once.slips who);
        waits = λ who. omega (arith, same (λ (slip : Slip). is_of who slip && waits slip) (λ slip. refl), ap (λ (now : Turns). dues_of who now.hosts) (found_hosts duty now old new plight at p), once.waits who);
        kept = omega (arith, same is_stray (λ slip. refl), once.kept);
      }),
      λ other. same (λ (slip : Slip). is_of other slip && is_called slip) (λ slip. refl),
    )

not_false : (b : Bool) → not b ≡ false → b ≡ true
not_false true e = refl
not_false false e = sym e

-- a participant that is forgotten was being called
other_left : (who other : Called) (f : Slip → Bool) (slips : List Slip) → same_called who other ≡ false
    → count_by (λ (slip : Slip). is_of other slip && f slip) (without who slips) ≡ count_by (λ (slip : Slip). is_of other slip && f slip) slips
other_left who other f slips differs =
    filter_keeps (λ (slip : Slip). is_of other slip && f slip) (λ (slip : Slip). not (same_called slip.who who))
    (λ slip dropped. and_no (is_of other slip) (f slip) (ap (λ (w : Called). same_called w other) (called_is slip.who who (not_false (same_called slip.who who) dropped)) ∙ differs)) slips

forgotten_waits : (who other : Called) (b : Bool) → same_called who other ≡ b → (calling : Calling) → HasEachOnce calling → IsBeingCalled who calling
    → dues_of other calling.now.hosts ≤ waits_of other (without who calling.slips)
forgotten_waits who other true e calling once called =
    let none : dues_of other calling.now.hosts ≡ 0 = subst (λ (w : Called). dues_of w calling.now.hosts ≡ 0) (called_is who other e) (idle who calling once called) in
    omega (arith, none)
forgotten_waits who other false e calling once called = omega (arith, other_left who other waits calling.slips e, once.waits other)

pub once_forgotten : (who : Called) (calling : Calling) → IsBeingCalled who calling → HasEachOnce calling
    → HasEachOnce (record { now = calling.now; slips = without who calling.slips; resumes_at = calling.resumes_at })
once_forgotten who calling called once = record {
  slips = λ other. omega (arith, filter_below (is_of other) (λ (slip : Slip). not (same_called slip.who who)) calling.slips, once.slips other);
  waits = λ other. forgotten_waits who other (same_called who other) refl calling once called;
  kept = omega (arith, filter_below is_stray (λ (slip : Slip). not (same_called slip.who who)) calling.slips, once.kept);
}

pub others_left : (who : Called) (slips : List Slip) (other : Called) → same_called who other ≡ false → calls_of other (without who slips) ≡ calls_of other slips
others_left who slips other differs = other_left who other is_called slips differs

-- a participant whose call failed pauses or is forgotten
missed_by : (duty : Duty) (came : CallFailure) (now : Duration) (old new : Calling) (plight : Option Plight) (place : ℕ) (is_listed : Bool) → place_of (called_of duty) old.slips ≡ Some place
    → MatchBool is_listed (IsMissedAt place duty came now old new plight) ((new ≡ forgotten (called_of duty) old) × (plight ≡ None))
    → (IsBeingCalled (called_of duty) old → HasEachOnce old → HasEachOnce new) × LeavesOthers (called_of duty) old new
missed_by duty came now old new plight place true e p =
    let pauses = missed_pauses duty p.vain now place old new e p.pauses in
    ((λ called once. once_paused (called_of duty) place old new once called pauses), others_paused (called_of duty) place old new pauses)
missed_by duty came now old new plight place false e p = (
  (λ called once. subst HasEachOnce (sym p.0) (once_forgotten (called_of duty) old called once)),
  λ other differs. ap (λ (c : Calling). calls_of other c.slips) p.0 ∙ others_left (called_of duty) old.slips other differs,
)

missed_at : (duty : Duty) (came : CallFailure) (now : Duration) (old new : Calling) (plight : Option Plight) (at : Option ℕ) → place_of (called_of duty) old.slips ≡ at → IsMissed at duty came now old new plight
    → (IsBeingCalled (called_of duty) old → HasEachOnce old → HasEachOnce new) × LeavesOthers (called_of duty) old new
missed_at duty came now old new plight None e same = ((λ called once. subst HasEachOnce (sym same.0) once), λ other differs. ap (λ (c : Calling). calls_of other c.slips) same.0)
missed_at duty came now old new plight (Some place) e p = missed_by duty came now old new plight place (slip_at old.slips place).is_listed e p

pub missed_once : (duty : Duty) (came : CallFailure) (now : Duration) (old new : Calling) (plight : Option Plight) → IsMissed (place_of (called_of duty) old.slips) duty came now old new plight
    → (IsBeingCalled (called_of duty) old → HasEachOnce old → HasEachOnce new) × LeavesOthers (called_of duty) old new
missed_once duty came now old new plight p = missed_at duty came now old new plight (place_of (called_of duty) old.slips) refl p

-- when a call is over, its host has the same duties
dues_ended : (who : Called) (duty : Duty) (pace : Pace) (hosts : List AtHost) (at : Option ℕ) → host_place duty hosts ≡ at → dues_of who (changed_at at (with_end pace) hosts) ≡ dues_of who hosts
dues_ended who duty pace hosts None e = refl
dues_ended who duty pace hosts (Some place) e =
    let f = found_in (is_host_of duty) 0 place hosts nowhere e in
    omega (arith, f.is, f.within, sum_by-set (λ (host : AtHost). duties_for who host.due) hosts place (with_end pace (host_at hosts place)) nowhere (omega (arith, f.is, f.within)))

pub once_ended : (duty : Duty) (pace : Pace) (calling : Calling) → HasEachOnce calling
    → HasEachOnce (record { now = with_hosts (changed_at (host_place duty calling.now.hosts) (with_end pace) calling.now.hosts) calling.now; slips = calling.slips; resumes_at = calling.resumes_at })
once_ended duty pace calling once = record {
  slips = once.slips;
  waits = λ who. omega (arith, dues_ended who duty pace calling.now.hosts (host_place duty calling.now.hosts) refl, once.waits who);
  kept = once.kept;
}

pub none_once : HasEachOnce nothing
none_once = record { slips = λ who. omega arith; waits = λ who. omega arith; kept = refl }
