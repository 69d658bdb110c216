-- Which participants are called, and what is remembered of each.
use Rattle.std.specs.Prelude.{◌≡◌, ◌*◌, ◌==◌, ◌&&◌, ℕ, Bool, true, false, List, Option, None, Some, filter, if◌then◌else◌, max, min, nat_le, not}
use Rattle.std.specs.List.{position_from}
use Rattle.std.specs.Duration.{as_nanos}
use Rattle.std.specs.declared.time.Duration.{Duration}
use Rattle.state_ids.specs.Ids.{same_id}
use Rattle.wire_callbacks.specs.declared.answer.Kind.{Kind}
use Rattle.wire_callbacks.specs.declared.answer.Kind.TheVariants.{After}
use Rattle.wire_callbacks.specs.declared.duty.Duty.{Duty}
use Rattle.node_schedule.specs.declared.slip.Called.{Called}
use Rattle.node_schedule.specs.declared.slip.Slip.{Slip}
use Rattle.node_schedule.specs.declared.slip.SlipState.{SlipState}
use Rattle.node_schedule.specs.declared.slip.SlipState.TheVariants.{IsCalled, Pauses, Waits}

abbrev pub is_after : Kind → Bool
is_after After = true
is_after _ = false

-- whom a duty calls: the participant, and whether it is notified of the end
abbrev pub called_of : Duty → Called
called_of duty = record { id = duty.id; member = duty.member; of_end = is_after duty.kind }

abbrev pub same_flag : Bool → Bool → Bool
same_flag true other = other
same_flag false other = not other

abbrev pub same_called : Called → Called → Bool
same_called one other = same_id one.id other.id && ((one.member == other.member) && same_flag one.of_end other.of_end)

abbrev pub waits_in : SlipState → Bool
waits_in Waits = true
waits_in _ = false

abbrev pub is_called_in : SlipState → Bool
is_called_in IsCalled = true
is_called_in _ = false

-- whether it waits for a thread
abbrev pub waits : Slip → Bool
waits slip = waits_in slip.stand

-- whether it is being called, or what its answer means isn't recorded yet
abbrev pub is_called : Slip → Bool
is_called slip = is_called_in slip.stand

-- whether its pause is over at this moment, so that it may be called again
abbrev pub is_over_in : Duration → SlipState → Bool
is_over_in now (Pauses until) = nat_le (as_nanos until) (as_nanos now)
is_over_in now _ = false

abbrev pub is_over : Duration → Slip → Bool
is_over now slip = is_over_in now slip.stand

-- whether it still pauses at this moment, so that it may not be called yet
abbrev pub pauses_in : Duration → SlipState → Bool
pauses_in now (Pauses until) = not (nat_le (as_nanos until) (as_nanos now))
pauses_in now _ = false

abbrev pub pauses : Duration → Slip → Bool
pauses now slip = pauses_in now slip.stand

-- the end of a pause that is over at every moment
abbrev pub at_once : Duration
at_once = record { secs = 0; nanos = 0 }

-- a participant that may be called at once
abbrev pub fresh : Called → Slip
fresh who = record { who = who; pause = 0; stand = Pauses at_once; kept = None; is_listed = false; vain = None }

-- a participant that waits for a thread or, if memory for that ran out, for the next list
abbrev pub waits_if : Bool → SlipState
waits_if true = Waits
waits_if false = Pauses at_once

abbrev pub made_to_wait : Bool → Slip → Slip
made_to_wait is_put slip = record { who = slip.who; pause = slip.pause; stand = waits_if is_put; kept = None; is_listed = slip.is_listed; vain = slip.vain }

-- a participant that no longer waits for a thread, and isn't on the list; no duty is kept for it
abbrev pub back : SlipState → SlipState
back Waits = Pauses at_once
back IsCalled = IsCalled
back (Pauses until) = Pauses until

abbrev pub taken_back : Slip → Slip
taken_back slip = record { who = slip.who; pause = slip.pause; stand = back slip.stand; kept = None; is_listed = false; vain = slip.vain }

-- whether it is still remembered after a list: it is on it, or is being called
abbrev pub is_remembered : Slip → Bool
is_remembered slip = if slip.is_listed then true else is_called slip

-- a slip in this state
abbrev pub standing : SlipState → Slip → Slip
standing stand slip = record { who = slip.who; pause = slip.pause; stand = stand; kept = slip.kept; is_listed = slip.is_listed; vain = slip.vain }

-- the participant to whom a call begins, and the others as they were
abbrev pub begun_to : Called → Slip → Slip
begun_to who slip = if same_called slip.who who then standing IsCalled slip else slip

-- when it may be called again; none while it waits or is being called
abbrev pub until_in : SlipState → Option Duration
until_in (Pauses until) = Some until
until_in _ = None

-- the pause after one of this many milliseconds: twice as long, within a quarter of a second and
-- half a minute
abbrev pub next_pause : ℕ → ℕ
next_pause pause = min (max (2 * pause) 250) 30_000

-- a participant pauses until a moment, longer than the last time
pub record IsPaused (until : Duration) (old new : Slip) : Type 0 where
  pub who : new.who ≡ old.who
  pub pause : new.pause ≡ next_pause old.pause
  pub stand : new.stand ≡ Pauses until
  pub kept : new.kept ≡ old.kept
  pub listed : new.is_listed ≡ old.is_listed
  pub vain : new.vain ≡ old.vain

-- a participant that no longer waits for a thread, isn't on the list, and is to be called for
-- nothing; if it is being called it stays so
pub record IsRecalled (old new : Slip) : Type 0 where
  pub who : new.who ≡ old.who
  pub pause : new.pause ≡ old.pause
  pub called : is_called new ≡ is_called old
  pub waits : waits new ≡ false
  pub kept : new.kept ≡ None
  pub listed : new.is_listed ≡ false
  pub vain : new.vain ≡ old.vain

-- the slips that are left if a participant is forgotten
abbrev pub without : Called → List Slip → List Slip
without who slips = filter (λ (slip : Slip). not (same_called slip.who who)) slips

-- the place of a participant's first slip, if there is one
abbrev pub place_of : Called → List Slip → Option ℕ
place_of who slips = position_from (λ (slip : Slip). same_called slip.who who) 0 slips
