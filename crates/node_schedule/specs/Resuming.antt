-- Which pauses are over, and what happens then.
use Rattle.std.specs.Prelude.{◌≡◌, ◌<◌, ◌≤◌, ◌+◌, ℕ, Bool, IfSome, List, MatchBool, Option, None, Some, false, length, nat_lt, true}
use Rattle.std.specs.List.{count_by}
use Rattle.std.specs.Duration.{as_nanos}
use Rattle.std.specs.declared.time.Duration.{Duration}
use Rattle.wire_callbacks.specs.declared.duty.Duty.{Duty}
use Rattle.node_schedule.specs.Calling.{Calling}
use Rattle.node_schedule.specs.Entering.{IsEntered, IsMadeToWait}
use Rattle.node_schedule.specs.Once.{calls_of, current_of, dues_of, is_stray, slips_of, waits_of}
use Rattle.node_schedule.specs.Pausing.{earlier, slip_at}
use Rattle.node_schedule.specs.Slips.{is_over, pauses, until_in}
use Rattle.node_schedule.specs.Turns.{AtHost, MayTake, Turns}
use Rattle.node_schedule.specs.declared.slip.Called.{Called}
use Rattle.node_schedule.specs.declared.slip.Slip.{Slip}

-- a slip in which no duty is kept
abbrev pub emptied : Slip → Slip
emptied slip = record { who = slip.who; pause = slip.pause; stand = slip.stand; kept = None; is_listed = slip.is_listed; vain = slip.vain }

-- the earlier of two moments, of which one may be missing
abbrev pub sooner : Option Duration → Option Duration → Option Duration
sooner next None = next
sooner next (Some until) = Some (earlier next until)

-- what is kept for a participant whose pause is over is recorded as a duty of a list is
abbrev pub EntersKept : Duration → Option Duty → Slip → Slip → Turns → Turns → Type 0
EntersKept now None old new before after = (new ≡ old) × (after ≡ before)
EntersKept now (Some duty) old new before after = (is_put : Bool) × IsEntered now duty (emptied old) new before after is_put

-- the same, and any other slip is left as it is; its pause is among those that are left
abbrev pub ResumesOne : Duration → Slip → Slip → Turns → Turns → Option Duration → Option Duration → Type 0
ResumesOne now old new before after next result =
    MatchBool (is_over now old)
    (EntersKept now old.kept old new before after × (result ≡ next))
    ((new ≡ old) × (after ≡ before) × (result ≡ sooner next (until_in old.stand)))

-- a participant for which a duty is kept waits for a thread from now on, or for the next list if
-- memory ran out
abbrev pub WaitsIfKept : Option Duty → Slip → Slip → Type 0
WaitsIfKept None old new = new ≡ old
WaitsIfKept (Some duty) old new = (is_put : Bool) × IsMadeToWait is_put (emptied old) new

-- a slip whose pause is over waits, and any other is left as it is
abbrev pub IsResumed : Duration → Slip → Slip → Type 0
IsResumed now old new = MatchBool (is_over now old) (WaitsIfKept old.kept old new) (new ≡ old)

-- When the first pause ends that goes on, of the first `count` slips: none if no pause goes on.
pub record IsFirstPauseAt (now : Duration) (count : ℕ) (slips : List Slip) (at : Duration) : Type 0 where
  pub place : ℕ
  pub within : place < count
  pub is : until_in (slip_at slips place).stand ≡ Some at
  pub goes_on : pauses now (slip_at slips place) ≡ true
  pub first : (other : ℕ) → other < count → pauses now (slip_at slips other) ≡ true
      → IfSome (until_in (slip_at slips other).stand) (λ (until : Duration). as_nanos at ≤ as_nanos until)

abbrev pub IsFirstPause : Duration → ℕ → List Slip → Option Duration → Type 0
IsFirstPause now count slips None = (place : ℕ) → place < count → pauses now (slip_at slips place) ≡ false
IsFirstPause now count slips (Some at) = IsFirstPauseAt now count slips at

-- what that changes for a given participant: for each slip that waits from now on, a duty is queued
pub record ResumesFor (who : Called) (old new : List Slip) (before after : List AtHost) : Type 0 where
  pub slips : slips_of who new ≡ slips_of who old
  pub calls : calls_of who new ≡ calls_of who old
  pub current : current_of who new ≤ current_of who old
  pub dues : dues_of who after + waits_of who old ≡ dues_of who before + waits_of who new

-- the same for all participants, if no slip keeps another participant's duty
pub record ResumesAll (now : Duration) (old new : List Slip) (before after : List AtHost) : Type 0 where
  pub each : (place : ℕ) → place < length old → IsResumed now (slip_at old place) (slip_at new place)
  pub as_many : length new ≡ length old
  pub stray : count_by is_stray old ≡ 0 → count_by is_stray new ≡ 0
  pub puts : count_by is_stray old ≡ 0 → (who : Called) → ResumesFor who old new before after

-- Once a pause is over, each participant whose pause is over waits for a thread, and the first of
-- the other pauses is looked for; before that nothing changes.
abbrev pub ResumesAt : Option Duration → Duration → Calling → Calling → Bool → Type 0
ResumesAt None now old new may = (new ≡ old) × (may ≡ false)
ResumesAt (Some at) now old new may =
    MatchBool (nat_lt (as_nanos now) (as_nanos at))
    ((new ≡ old) × (may ≡ false))
    (ResumesAll now old.slips new.slips old.now.hosts new.now.hosts × MayTake new.now may × IsFirstPause now (length old.slips) old.slips new.resumes_at)
