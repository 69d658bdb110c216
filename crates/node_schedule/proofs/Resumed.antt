-- Participants whose pause is over, in numbers.
use Rattle.std.proofs.Common.{◌≡◌, ◌≤◌, ◌<◌, ◌+◌, ◌&&◌, ◌∙◌, ℕ, Bool, true, false, List, MatchBool, Option, Some, None, ap, arith, inl, inr, length, not, refl, slice_set, subst, sym}
use Rattle.std.proofs.lemmas.Bool.Decides.{eqb_tells}
use Rattle.std.proofs.lemmas.List.{get_or-set_other, get_or-set_same}
use Rattle.std.specs.List.{count_by}
use Rattle.std.specs.Option.{option_map_or}
use Rattle.std.specs.declared.time.Duration.{Duration}
use Rattle.wire_callbacks.specs.declared.duty.Duty.{Duty}
use Rattle.std.specs.Duration.{as_nanos}
use Rattle.std.specs.Prelude.{nat_lt}
use Rattle.node_schedule.specs.Calling.{Calling}
use Rattle.node_schedule.specs.Entering.{IsMadeToWait, keeping, noted}
use Rattle.node_schedule.specs.Once.{BeginsNoCall, HasEachOnce, calls_of, current_of, dues_of, is_current, is_for, is_of, is_stray}
use Rattle.node_schedule.specs.Pausing.{nobody, slip_at}
use Rattle.node_schedule.specs.Resuming.{EntersKept, IsFirstPause, IsResumed, ResumesAll, ResumesAt, ResumesFor, ResumesOne, WaitsIfKept, emptied, sooner}
use Rattle.node_schedule.specs.Slips.{called_of, is_called, is_called_in, is_over, is_over_in, same_called, until_in, waits}
use Rattle.node_schedule.specs.Turns.{IsPut, MayTake, Turns}
use Rattle.node_schedule.specs.declared.slip.Called.{Called}
use Rattle.node_schedule.specs.declared.slip.Slip.{Slip}
use Rattle.node_schedule.specs.declared.slip.SlipState.{SlipState}
use Rattle.node_schedule.specs.declared.slip.SlipState.TheVariants.{IsCalled, Pauses, Waits}
use Rattle.node_schedule.proofs.Counts.{called_is}
use Rattle.node_schedule.proofs.Entered.{enters}
use Rattle.node_schedule.proofs.Once.{bit, set_counts}
use Rattle.node_schedule.proofs.Puts.{both_below, cond_for, read_counts}

-- what is recorded for a participant whose pause is over
made_at : (now : Duration) (duty : Duty) (old new : Slip) (before after : Turns) (is_put over : Bool) → over ≡ true
    → MatchBool over (IsPut duty before after is_put × IsMadeToWait is_put old new) ((new ≡ keeping duty old) × (after ≡ noted duty before) × (is_put ≡ true))
    → IsMadeToWait is_put old new
made_at now duty old new before after is_put true o h = h.1
made_at now duty old new before after is_put false o h = absurd cc

waits_if_kept : (now : Duration) (kept : Option Duty) (old new : Slip) (before after : Turns) → is_over now old ≡ true → EntersKept now kept old new before after → WaitsIfKept kept old new
waits_if_kept now None old new before after over h = h.0
waits_if_kept now (Some duty) old new before after over h =
    (h.0, made_at now duty (emptied old) new before after h.0 (is_over now (emptied old)) over h.1)

resumed_at : (now : Duration) (old new : Slip) (before after : Turns) (next result : Option Duration) (over : Bool) → is_over now old ≡ over
    → MatchBool over (EntersKept now old.kept old new before after × (result ≡ next)) ((new ≡ old) × (after ≡ before) × (result ≡ sooner next (until_in old.stand)))
    → MatchBool over (WaitsIfKept old.kept old new) (new ≡ old)
resumed_at now old new before after next result true e h = waits_if_kept now old.kept old new before after e h.0
resumed_at now old new before after next result false e h = h.0

pub resumed : (now : Duration) (old new : Slip) (before after : Turns) (next result : Option Duration) → ResumesOne now old new before after next result → IsResumed now old new
resumed now old new before after next result h = resumed_at now old new before after next result (is_over now old) refl h

-- what changes for a participant with one slip
pub record ChangesSlip (old new : Slip) (before after : Turns) : Type 0 where
  pub whose : new.who ≡ old.who
  pub calls : is_called new ≡ is_called old
  pub current : bit (is_current new) ≤ bit (is_current old)
  pub strays : is_stray new ≡ false
  pub dues : (who : Called) → dues_of who after.hosts + bit (is_of who old && waits old) ≡ dues_of who before.hosts + bit (is_of who new && waits new)

left_alone : (old new : Slip) (before after : Turns) → is_stray old ≡ false → new ≡ old → after ≡ before → ChangesSlip old new before after
left_alone old new before after own is same = record {
  whose = ap (λ (s : Slip). s.who) is;
  calls = ap is_called is;
  current = omega (arith, ap {B = ℕ} (λ (s : Slip). bit (is_current s)) is);
  strays = ap is_stray is ∙ own;
  dues = λ who. omega (arith, ap (λ (t : Turns). dues_of who t.hosts) same, ap {B = ℕ} (λ (s : Slip). bit (is_of who s && waits s)) is);
}

not_off : (b : Bool) → not b ≡ false → b ≡ true
not_off true e = refl
not_off false e = sym e

own_duty : (duty : Duty) (old : Slip) → is_stray old ≡ false → old.kept ≡ Some duty → old.who ≡ called_of duty
own_duty duty old own kept =
    sym (called_is (called_of duty) old.who (not_off (same_called (called_of duty) old.who) (sym (ap (λ (k : Option Duty). not (option_map_or (is_for old.who) k true)) kept) ∙ own)))

bit_no : (b : Bool) → bit b ≤ 0 → b ≡ false
bit_no true h = absurd (omega arith)
bit_no false h = refl

kept_changes : (now : Duration) (kept : Option Duty) (old new : Slip) (before after : Turns) → old.kept ≡ kept → is_stray old ≡ false → EntersKept now kept old new before after → ChangesSlip old new before after
kept_changes now None old new before after k own h = left_alone old new before after own h.0 h.1
kept_changes now (Some duty) old new before after k own h =
    let its = own_duty duty old own k in
    let e = enters now duty (emptied old) new before after h.0 its h.1 in
    record {
      whose = e.whose;
      calls = e.calls;
      current = omega (arith, ap {B = ℕ} bit e.current);
      strays = bit_no (is_stray new) e.strays;
      dues = λ who. omega (
        arith,
        e.dues who,
        cond_for who duty (is_of who old) (waits old) (ap (λ (w : Called). same_called w who) its),
        cond_for who duty (is_of who new) (waits new) (ap (λ (w : Called). same_called w who) (e.whose ∙ its)),
      );
    }

changes_at : (now : Duration) (old new : Slip) (before after : Turns) (next result : Option Duration) (over : Bool) → is_stray old ≡ false
    → MatchBool over (EntersKept now old.kept old new before after × (result ≡ next)) ((new ≡ old) × (after ≡ before) × (result ≡ sooner next (until_in old.stand)))
    → ChangesSlip old new before after
changes_at now old new before after next result true own h = kept_changes now old.kept old new before after refl own h.0
changes_at now old new before after next result false own h = left_alone old new before after own h.0 h.1

-- one more slip of the list
pub stray_next : (now : Duration) (fn slips : List Slip) (place : ℕ) (new : Slip) (before after : Turns) (next result : Option Duration) → place < length slips
    → ResumesOne now (slip_at slips place) new before after next result → count_by is_stray slips ≡ 0 → count_by is_stray (slice_set slips place new) ≡ 0
stray_next now fn slips place new before after next result within h own =
    let none : is_stray (slip_at slips place) ≡ false = bit_no (is_stray (slip_at slips place)) (omega (arith, own, read_counts is_stray slips place within)) in
    let c = changes_at now (slip_at slips place) new before after next result (is_over now (slip_at slips place)) none h in
    omega (arith, set_counts is_stray slips (slice_set slips place new) place new within refl, ap {B = ℕ} bit c.strays, own)

pub resumes_next : (now : Duration) (who : Called) (fn slips : List Slip) (place : ℕ) (new : Slip) (start before after : Turns) (next result : Option Duration) → place < length slips
    → ResumesOne now (slip_at slips place) new before after next result → count_by is_stray slips ≡ 0 → ResumesFor who fn slips start.hosts before.hosts
    → ResumesFor who fn (slice_set slips place new) start.hosts after.hosts
resumes_next now who fn slips place new start before after next result within h own so =
    let s = slip_at slips place in
    let none : is_stray s ≡ false = bit_no (is_stray s) (omega (arith, own, read_counts is_stray slips place within)) in
    let c = changes_at now s new before after next result (is_over now s) none h in
    let same : is_of who new ≡ is_of who s = ap (λ (w : Called). same_called w who) c.whose in
    record {
      slips = omega (arith, so.slips, set_counts (is_of who) slips (slice_set slips place new) place new within refl, ap {B = ℕ} bit same);
      calls = omega (
        arith,
        so.calls,
        set_counts (λ (slip : Slip). is_of who slip && is_called slip) slips (slice_set slips place new) place new within refl,
        ap {B = ℕ} (λ (b : Bool). bit (b && is_called new)) same,
        ap {B = ℕ} (λ (b : Bool). bit (is_of who s && b)) c.calls,
      );
      current = omega (
        arith,
        so.current,
        set_counts (λ (slip : Slip). is_of who slip && is_current slip) slips (slice_set slips place new) place new within refl,
        ap {B = ℕ} (λ (b : Bool). bit (b && is_current new)) same,
        both_below (is_of who s) (is_current new) (is_current s) c.current,
      );
      dues = omega (arith, so.dues, set_counts (λ (slip : Slip). is_of who slip && waits slip) slips (slice_set slips place new) place new within refl, c.dues who);
    }

-- those so far are resumed, and the others as they were
pub each_next : (now : Duration) (fn slips : List Slip) (place : ℕ) (new : Slip) → place < length slips → IsResumed now (slip_at fn place) new
    → ((k : ℕ) → k < place → IsResumed now (slip_at fn k) (slip_at slips k)) → (k : ℕ) → k < place + 1 → IsResumed now (slip_at fn k) (slip_at (slice_set slips place new) k)
each_next now fn slips place new within is so k below =
    elim (eqb_tells k place) as (λ _. IsResumed now (slip_at fn k) (slip_at (slice_set slips place new) k)) [
      | inl h ↦ subst (λ (k : ℕ). IsResumed now (slip_at fn k) (slip_at (slice_set slips place new) k)) (sym h.1) (subst (IsResumed now (slip_at fn place)) (sym (get_or-set_same slips place new nobody within)) is)
      | inr h ↦ subst (IsResumed now (slip_at fn k)) (sym (get_or-set_other slips place k new nobody h.1)) (so k (omega (arith, h.1)))
    ]

pub rest_next : (fn slips : List Slip) (place : ℕ) (new : Slip) → ((k : ℕ) → place ≤ k → slip_at slips k ≡ slip_at fn k) → (k : ℕ) → place + 1 ≤ k → slip_at (slice_set slips place new) k ≡ slip_at fn k
rest_next fn slips place new so k above =
    let other : k ≡ place → ⊥ = λ e. absurd (omega arith) in
    get_or-set_other slips place k new nobody other ∙ so k (omega arith)

once_all : (now : Duration) (old new : Calling) → ResumesAll now old.slips new.slips old.now.hosts new.now.hosts → HasEachOnce old → HasEachOnce new
once_all now old new all once = record {
  slips = λ who. omega (arith, (all.puts once.kept who).slips, once.slips who);
  waits = λ who. omega (arith, (all.puts once.kept who).dues, once.waits who);
  kept = all.stray once.kept;
}

resumed_or_not : (now : Duration) (old new : Calling) (may later : Bool)
    → MatchBool later ((new ≡ old) × (may ≡ false)) (ResumesAll now old.slips new.slips old.now.hosts new.now.hosts × MayTake new.now may × IsFirstPause now (length old.slips) old.slips new.resumes_at)
    → HasEachOnce old → HasEachOnce new × ((who : Called) → calls_of who new.slips ≡ calls_of who old.slips)
resumed_or_not now old new may true h once = (subst HasEachOnce (sym h.0) once, λ who. ap (λ (c : Calling). calls_of who c.slips) h.0)
resumed_or_not now old new may false h once = (once_all now old new h.0 once, λ who. (h.0.puts once.kept who).calls)

-- a participant whose pause is over is there once, and one that is being called is left alone
pub resumed_once : (at : Option Duration) (now : Duration) (old new : Calling) (may : Bool) → ResumesAt at now old new may
    → HasEachOnce old → HasEachOnce new × ((who : Called) → calls_of who new.slips ≡ calls_of who old.slips)
resumed_once None now old new may h once = (subst HasEachOnce (sym h.0) once, λ who. ap (λ (c : Calling). calls_of who c.slips) h.0)
resumed_once (Some at) now old new may h once = resumed_or_not now old new may (nat_lt (as_nanos now) (as_nanos at)) h once

resumed_begins : (now : Duration) (old new : Calling) (may later : Bool)
    → MatchBool later ((new ≡ old) × (may ≡ false)) (ResumesAll now old.slips new.slips old.now.hosts new.now.hosts × MayTake new.now may × IsFirstPause now (length old.slips) old.slips new.resumes_at)
    → HasEachOnce old → BeginsNoCall old new
resumed_begins now old new may true h once = λ who. omega (arith, ap (λ (c : Calling). current_of who c.slips) h.0)
resumed_begins now old new may false h once = λ who. (h.0.puts once.kept who).current

-- a participant whose pause is over waits
pub resumed_no_call : (at : Option Duration) (now : Duration) (old new : Calling) (may : Bool) → ResumesAt at now old new may → HasEachOnce old → BeginsNoCall old new
resumed_no_call None now old new may h once = λ who. omega (arith, ap (λ (c : Calling). current_of who c.slips) h.0)
resumed_no_call (Some at) now old new may h once = resumed_begins now old new may (nat_lt (as_nanos now) (as_nanos at)) h once
