-- Which participants are called again after a pause, and what came of the calls before.
use Rattle.std.specs.Prelude.{◌≡◌, ◌+◌, ◌*◌, ℕ, false, true, List, MatchBool, Option, None, Some, IfNone, IfSome, IsSome, if◌then◌else◌, min, nat_lt, slice_index_or, slice_set}
use Rattle.std.specs.Duration.{as_nanos, max_nanos}
use Rattle.std.specs.declared.time.Duration.{Duration}
use Rattle.wire_callbacks.specs.declared.duty.Duty.{Duty}
use Rattle.node_schedule.specs.Calling.{Calling, forgotten}
use Rattle.node_schedule.specs.Plights.{Tells, is_told_at, told_at, vain_after}
use Rattle.node_schedule.specs.Slips.{IsPaused, called_of, place_of, until_in}
use Rattle.node_schedule.specs.declared.plight.CallFailure.{CallFailure}
use Rattle.node_schedule.specs.declared.plight.Plight.{Plight}
use Rattle.node_schedule.specs.declared.plight.Vain.{Vain}
use Rattle.node_schedule.specs.declared.slip.Called.{Called}
use Rattle.node_schedule.specs.declared.slip.Slip.{Slip}
use Rattle.node_schedule.specs.declared.slip.SlipState.TheVariants.{Waits}

-- an empty slip, for a place without one
abbrev pub nobody : Slip
nobody = record { who = record { id = record { home = 0; num = 0 }; member = 0; of_end = false }; pause = 0; stand = Waits; kept = None; is_listed = false; vain = None }

abbrev pub slip_at : List Slip → ℕ → Slip
slip_at slips place = slice_index_or slips place nobody

-- a participant's failed calls, if its last call failed, by the place of its slip
abbrev pub vain_at : Option ℕ → List Slip → Option Vain
vain_at None slips = None
vain_at (Some place) slips = (slip_at slips place).vain

abbrev pub vain_of : Called → List Slip → Option Vain
vain_of who slips = vain_at (place_of who slips) slips

-- when a participant is called next; none while it waits or is being called, or if nothing is
-- remembered of it
abbrev pub next_at : Option ℕ → List Slip → Option Duration
next_at None slips = None
next_at (Some place) slips = until_in (slip_at slips place).stand

abbrev pub next_of : Called → List Slip → Option Duration
next_of who slips = next_at (place_of who slips) slips

-- the earlier of two moments, or the only one
abbrev pub earlier : Option Duration → Duration → Duration
earlier None other = other
earlier (Some one) other = if nat_lt (as_nanos other) (as_nanos one) then other else one

-- a participant that is called again for what the next list has, with no failed calls so far
abbrev pub cleared : Slip → Slip
cleared slip = record { who = slip.who; pause = slip.pause; stand = slip.stand; kept = None; is_listed = slip.is_listed; vain = None }

-- what a participant is called for again: what a list has brought meanwhile, or otherwise this duty
abbrev pub newest : Option Duty → Duty → Duty
newest None duty = duty
newest (Some newer) duty = newer

-- a participant that is called again for what `newest` says, after these failed calls for a duty
abbrev pub missed : Duty → Vain → Slip → Slip
missed duty vain slip = record { who = slip.who; pause = slip.pause; stand = slip.stand; kept = Some (newest slip.kept duty); is_listed = slip.is_listed; vain = Some vain }

-- a participant whose answer counted
abbrev pub found : Slip → Slip
found slip = record { who = slip.who; pause = slip.pause; stand = slip.stand; kept = slip.kept; is_listed = slip.is_listed; vain = None }

-- the slip at this place is changed in this way, and pauses from now on; nothing else changes
-- except when the first pause ends
pub record PausesAt (place : ℕ) (now : Duration) (change : Slip → Slip) (old new : Calling) : Type 0 where
  pub until : Duration
  pub paused : IsPaused until (change (slip_at old.slips place)) (slip_at new.slips place)
  pub time : as_nanos until ≡ min (as_nanos now + (slip_at new.slips place).pause * 1_000_000) max_nanos
  pub others : new.slips ≡ slice_set old.slips place (slip_at new.slips place)
  pub resumes : new.resumes_at ≡ Some (earlier old.resumes_at until)
  pub hosts : new.now ≡ old.now

-- a busy participant pauses, if something is remembered of it
abbrev pub IsBusyAt : Option ℕ → Duration → Calling → Calling → Type 0
IsBusyAt None now old new = new ≡ old
IsBusyAt (Some place) now old new = PausesAt place now cleared old new

-- what is logged of failed calls, and what is remembered of them then
pub record IsTold (duty : Duty) (now : Duration) (old new : Vain) (plight : Option Plight) : Type 0 where
  pub due : IsSome plight → is_told_at now old ≡ true
  pub told : IfSome plight (λ (p : Plight). Tells old duty now false p × (new ≡ told_at now old))
  pub untold : IfNone plight (new ≡ old)

-- a participant whose call failed pauses, with one more failed call; what is logged is of these
-- calls
pub record IsMissedAt (place : ℕ) (duty : Duty) (came : CallFailure) (now : Duration) (old new : Calling) (plight : Option Plight) : Type 0 where
  pub vain : Vain
  pub told : IsTold duty now (vain_after (slip_at old.slips place).vain came now) vain plight
  pub pauses : PausesAt place now (missed duty vain) old new

-- if the last list doesn't name the participant, it is forgotten that it was called
abbrev pub IsMissed : Option ℕ → Duty → CallFailure → Duration → Calling → Calling → Option Plight → Type 0
IsMissed None duty came now old new plight = (new ≡ old) × (plight ≡ None)
IsMissed (Some place) duty came now old new plight =
    MatchBool (slip_at old.slips place).is_listed
    (IsMissedAt place duty came now old new plight)
    ((new ≡ forgotten (called_of duty) old) × (plight ≡ None))

-- what is logged of the end of failed calls, if these were logged
abbrev pub TellsEnd : Option Vain → Duty → Duration → Option Plight → Type 0
TellsEnd None duty now plight = plight ≡ None
TellsEnd (Some vain) duty now plight = IfSome plight (λ (p : Plight). IsSome vain.told × Tells vain duty now true p)

-- a participant whose answer counted has no failed calls any more, and nothing else changes
pub record IsFoundAt (place : ℕ) (duty : Duty) (now : Duration) (old new : Calling) (plight : Option Plight) : Type 0 where
  pub changes : new ≡ record { now = old.now; slips = slice_set old.slips place (found (slip_at old.slips place)); resumes_at = old.resumes_at }
  pub told : TellsEnd (slip_at old.slips place).vain duty now plight

abbrev pub IsFound : Option ℕ → Duty → Duration → Calling → Calling → Option Plight → Type 0
IsFound None duty now old new plight = (new ≡ old) × (plight ≡ None)
IsFound (Some place) duty now old new plight = IsFoundAt place duty now old new plight
