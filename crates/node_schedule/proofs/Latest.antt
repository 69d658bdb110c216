-- A participant is called only for what the last list names.
use Rattle.std.proofs.Common.{◌≡◌, ◌≤◌, ◌<◌, ◌+◌, ◌&&◌, ◌∙◌, ℕ, Bool, true, false, IfSome, List, Option, Some, None, MatchBool, ap, arith, is_none, length, map, not, refl, slice_set, subst, sym}
use Rattle.std.proofs.lemmas.Bool.{and_left as and_no, and_right as and_none}
use Rattle.std.proofs.lemmas.List.Elements.{All-filter, All-set}
use Rattle.std.specs.List.{count_by}
use Rattle.std.specs.declared.time.Duration.{Duration}
use Rattle.wire_callbacks.specs.declared.duty.Duty.{Duty}
use Rattle.node_schedule.specs.Calling.{Calling, IsTakenFrom, forgotten}
use Rattle.node_schedule.specs.Named.{AllKept, AllNamed, AllWaiting, IsKept, Passes}
use Rattle.node_schedule.specs.Once.{BeginsNoCall, HasEachOnce, IsBeingCalled, calls_of, current_of, is_current, is_of, slips_of}
use Rattle.node_schedule.specs.Pausing.{IsBusyAt, IsFound, IsMissed, IsMissedAt, newest, nobody, slip_at}
use Rattle.node_schedule.specs.Slips.{called_of, is_called, place_of, same_called, without}
use Rattle.node_schedule.specs.Turns.{Turns}
use Rattle.node_schedule.specs.declared.plight.CallFailure.{CallFailure}
use Rattle.node_schedule.specs.declared.plight.Plight.{Plight}
use Rattle.node_schedule.specs.declared.slip.Called.{Called}
use Rattle.node_schedule.specs.declared.slip.Slip.{Slip}
use Rattle.node_schedule.proofs.Counts.{called_self, filter_below, sums_below}
use Rattle.node_schedule.proofs.Once.{PausesOne, bit, busy_pauses, found_counts, found_slip, missed_pauses, others_begun, set_counts}
use Rattle.node_schedule.proofs.Puts.{both_below, read_counts}

-- a participant that pauses is called for nothing
paused_no_call : (who : Called) (place : ℕ) (old new : Calling) → PausesOne who place old new → BeginsNoCall old new
paused_no_call who place old new p = λ other.
    let none : is_current p.slip ≡ false = and_no (is_called p.slip) (p.slip.is_listed && is_none p.slip.kept) p.called in
    omega (
      arith,
      set_counts (λ (slip : Slip). is_of other slip && is_current slip) old.slips new.slips place p.slip p.within p.slips,
      ap {B = ℕ} bit (and_none (is_of other p.slip) (is_current p.slip) none),
    )

same_no_call : (old new : Calling) → new ≡ old → BeginsNoCall old new
same_no_call old new same = λ who. omega (arith, ap (λ (c : Calling). current_of who c.slips) same)

pub forgotten_no_call : (who : Called) (old : Calling) → BeginsNoCall old (forgotten who old)
forgotten_no_call who old = λ other. filter_below (λ (slip : Slip). is_of other slip && is_current slip) (λ (slip : Slip). not (same_called slip.who who)) old.slips

busy_at : (who : Called) (now : Duration) (old new : Calling) (at : Option ℕ) → place_of who old.slips ≡ at → IsBusyAt at now old new → BeginsNoCall old new
busy_at who now old new None e same = same_no_call old new same
busy_at who now old new (Some place) e p = paused_no_call who place old new (busy_pauses who now place old new e p)

pub busy_no_call : (who : Called) (now : Duration) (old new : Calling) → IsBusyAt (place_of who old.slips) now old new → BeginsNoCall old new
busy_no_call who now old new p = busy_at who now old new (place_of who old.slips) refl p

pub found_no_call : (duty : Duty) (now : Duration) (old new : Calling) (plight : Option Plight) → IsFound (place_of (called_of duty) old.slips) duty now old new plight → BeginsNoCall old new
found_no_call duty now old new plight p = λ who.
    omega (arith, found_counts (λ (slip : Slip). is_of who slip && is_current slip) (λ slip. refl) duty now old new plight (place_of (called_of duty) old.slips) refl p)

missed_calls : (duty : Duty) (came : CallFailure) (now : Duration) (old new : Calling) (plight : Option Plight) (place : ℕ) (is_listed : Bool) → place_of (called_of duty) old.slips ≡ Some place
    → MatchBool is_listed (IsMissedAt place duty came now old new plight) ((new ≡ forgotten (called_of duty) old) × (plight ≡ None)) → BeginsNoCall old new
missed_calls duty came now old new plight place true e p = paused_no_call (called_of duty) place old new (missed_pauses duty p.vain now place old new e p.pauses)
missed_calls duty came now old new plight place false e p = subst (BeginsNoCall old) (sym p.0) (forgotten_no_call (called_of duty) old)

missed_at : (duty : Duty) (came : CallFailure) (now : Duration) (old new : Calling) (plight : Option Plight) (at : Option ℕ) → place_of (called_of duty) old.slips ≡ at → IsMissed at duty came now old new plight
    → BeginsNoCall old new
missed_at duty came now old new plight None e same = same_no_call old new same.0
missed_at duty came now old new plight (Some place) e p = missed_calls duty came now old new plight place (slip_at old.slips place).is_listed e p

pub missed_no_call : (duty : Duty) (came : CallFailure) (now : Duration) (old new : Calling) (plight : Option Plight) → IsMissed (place_of (called_of duty) old.slips) duty came now old new plight → HasEachOnce old
    → BeginsNoCall old new
missed_no_call duty came now old new plight p once = missed_at duty came now old new plight (place_of (called_of duty) old.slips) refl p

pub taken_others : (who : Called) (old new : Calling) (duty : Duty) → IsTakenFrom old new (Some duty) → same_called (called_of duty) who ≡ false → current_of who new.slips ≡ current_of who old.slips
taken_others who old new duty taken differs = ap (current_of who) taken.slips ∙ others_begun (called_of duty) who is_current old.slips differs

-- what is kept if a participant is forgotten, and if a slip is changed
pub forgotten_names : (test : Duty → Bool) (who : Called) (old : Calling) → AllNamed test old → AllNamed test (forgotten who old)
forgotten_names test who old named = record { waiting = named.waiting; kept = All-filter (λ (slip : Slip). not (same_called slip.who who)) (IsKept test) old.slips named.kept }

pub paused_names : (test : Duty → Bool) (who : Called) (place : ℕ) (old new : Calling) → PausesOne who place old new → IsKept test (slip_at new.slips place) → new.slips ≡ slice_set old.slips place (slip_at new.slips place)
    → AllNamed test old → AllNamed test new
paused_names test who place old new p kept is named = record {
  waiting = subst (λ (now : Turns). AllWaiting test now.hosts) (sym p.hosts) named.waiting;
  kept = subst (AllKept test) (sym is) (All-set (IsKept test) old.slips place (slip_at new.slips place) kept named.kept);
}

-- for what a participant is called next, given what a list has brought
pub newest_passes : (test : Duty → Bool) (brought : Option Duty) (duty : Duty) → IfSome brought (Passes test) → (is_none brought ≡ true → Passes test duty) → Passes test (newest brought duty)
newest_passes test None duty kept else = else refl
newest_passes test (Some newer) duty kept else = kept

pub missed_listed : (duty : Duty) (came : CallFailure) (now : Duration) (old new : Calling) (plight : Option Plight) (place : ℕ) → (slip_at old.slips place).is_listed ≡ true
    → IsMissedAt place duty came now old new plight → IsMissed (Some place) duty came now old new plight
missed_listed duty came now old new plight place l h =
    subst (λ (b : Bool). MatchBool b (IsMissedAt place duty came now old new plight) ((new ≡ forgotten (called_of duty) old) × (plight ≡ None))) (sym l) h

missed_by : (test : Duty → Bool) (duty : Duty) (came : CallFailure) (now : Duration) (old new : Calling) (plight : Option Plight) (place : ℕ) (is_listed : Bool) → (slip_at old.slips place).is_listed ≡ is_listed
    → place_of (called_of duty) old.slips ≡ Some place → MatchBool is_listed (IsMissedAt place duty came now old new plight) ((new ≡ forgotten (called_of duty) old) × (plight ≡ None))
    → ((slip_at old.slips place).is_listed ≡ true → is_none (slip_at old.slips place).kept ≡ true → Passes test duty) → AllNamed test old → AllNamed test new
missed_by test duty came now old new plight place true l e p else named =
    let pauses = missed_pauses duty p.vain now place old new e p.pauses in
    let passes = newest_passes test (slip_at old.slips place).kept duty (named.kept place nobody (found_slip (called_of duty) place old.slips e).0) (else l) in
    paused_names test (called_of duty) place old new pauses
    (subst (λ (k : Option Duty). IfSome k (Passes test)) (sym p.pauses.paused.kept) passes) p.pauses.others named
missed_by test duty came now old new plight place false l e p else named = subst (AllNamed test) (sym p.0) (forgotten_names test (called_of duty) old named)

named_at : (test : Duty → Bool) (duty : Duty) (came : CallFailure) (now : Duration) (old new : Calling) (plight : Option Plight) (at : Option ℕ) → place_of (called_of duty) old.slips ≡ at
    → IsMissed at duty came now old new plight
    → ((place : ℕ) → at ≡ Some place → (slip_at old.slips place).is_listed ≡ true → is_none (slip_at old.slips place).kept ≡ true → Passes test duty) → AllNamed test old → AllNamed test new
named_at test duty came now old new plight None e p else named = subst (AllNamed test) (sym p.0) named
named_at test duty came now old new plight (Some place) e p else named =
    missed_by test duty came now old new plight place (slip_at old.slips place).is_listed refl e p (else place refl) named

pub missed_behind : (test : Duty → Bool) (duty : Duty) (came : CallFailure) (now : Duration) (old new : Calling) (plight : Option Plight) → IsMissed (place_of (called_of duty) old.slips) duty came now old new plight
    → Passes test duty → AllNamed test old → AllNamed test new
missed_behind test duty came now old new plight p passes named = named_at test duty came now old new plight (place_of (called_of duty) old.slips) refl p (λ place e l k. passes) named

-- the only slip of a participant that is called is that of the call
idle_bit : (a b : Bool) → bit (a && b) + bit (a && not b) ≤ bit a
idle_bit true true = omega arith
idle_bit true false = omega arith
idle_bit false b = omega arith

bit_one : (a b : Bool) → a ≡ true → bit (a && not b) ≤ 0 → b ≡ true
bit_one a true e h = refl
bit_one true false e h = absurd (omega (arith, h))
bit_one false false e h = absurd cc

is_the_called : (who : Called) (place : ℕ) (old : Calling) → HasEachOnce old → IsBeingCalled who old → place_of who old.slips ≡ Some place → is_called (slip_at old.slips place) ≡ true
is_the_called who place old once called e =
    let found = found_slip who place old.slips e in
    let apart : calls_of who old.slips + count_by (λ (slip : Slip). is_of who slip && not (is_called slip)) old.slips ≤ slips_of who old.slips =
    sums_below (λ (slip : Slip). bit (is_of who slip && is_called slip)) (λ (slip : Slip). bit (is_of who slip && not (is_called slip))) (λ (slip : Slip). bit (is_of who slip))
    (λ slip. idle_bit (is_of who slip) (is_called slip)) old.slips in
    let its : is_of who (slip_at old.slips place) ≡ true = ap (λ (w : Called). same_called w who) found.1 ∙ called_self who in
    bit_one (is_of who (slip_at old.slips place)) (is_called (slip_at old.slips place)) its
    (omega (arith, apart, called, once.slips who, read_counts (λ (slip : Slip). is_of who slip && not (is_called slip)) old.slips place found.0))

-- a call for what the last list has
bit_all : (a b c d : Bool) → a ≡ true → b ≡ true → c ≡ true → d ≡ true → bit (a && (b && (c && d))) ≤ 0 → ⊥
bit_all true true true true a b c d h = omega (arith, h)
bit_all false y z w a b c d h = absurd cc
bit_all true false z w a b c d h = absurd cc
bit_all true true false w a b c d h = absurd cc
bit_all true true true false a b c d h = absurd cc

is_current_at : (who : Called) (place : ℕ) (old : Calling) → HasEachOnce old → IsBeingCalled who old → current_of who old.slips ≡ 0 → place_of who old.slips ≡ Some place
    → (slip_at old.slips place).is_listed ≡ true → is_none (slip_at old.slips place).kept ≡ true → ⊥
is_current_at who place old once called none e l k =
    let found = found_slip who place old.slips e in
    let s = slip_at old.slips place in
    bit_all (is_of who s) (is_called s) s.is_listed (is_none s.kept) (ap (λ (w : Called). same_called w who) found.1 ∙ called_self who) (is_the_called who place old once called e) l k
    (omega (arith, none, read_counts (λ (slip : Slip). is_of who slip && is_current slip) old.slips place found.0))

pub missed_before : (test : Duty → Bool) (duty : Duty) (came : CallFailure) (now : Duration) (old new : Calling) (plight : Option Plight) → IsMissed (place_of (called_of duty) old.slips) duty came now old new plight
    → HasEachOnce old → IsBeingCalled (called_of duty) old → current_of (called_of duty) old.slips ≡ 0 → AllNamed test old → AllNamed test new
missed_before test duty came now old new plight p once called none named =
    named_at test duty came now old new plight (place_of (called_of duty) old.slips) refl p
    (λ place e l k. absurd (is_current_at (called_of duty) place old once called none e l k)) named
