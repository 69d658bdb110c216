-- No participant is called twice at a time.
use Rattle.std.specs.Prelude.{◌≡◌, ◌≤◌, ◌<◌, ◌&&◌, ℕ, Bool, true, false, List, cond, is_none, not}
use Rattle.std.specs.List.{count_by, sum_by}
use Rattle.std.specs.Option.{option_map_or}
use Rattle.std.specs.declared.time.Duration.{Duration}
use Rattle.wire_callbacks.specs.declared.duty.Duty.{Duty}
use Rattle.node_schedule.specs.Calling.{Calling}
use Rattle.node_schedule.specs.Slips.{called_of, is_called, pauses, same_called, waits}
use Rattle.node_schedule.specs.Turns.{AtHost}
use Rattle.node_schedule.specs.declared.slip.Called.{Called}
use Rattle.node_schedule.specs.declared.slip.Slip.{Slip}

-- whether a slip is a participant's; whether a duty calls a participant
abbrev pub is_of : Called → Slip → Bool
is_of who slip = same_called slip.who who

abbrev pub is_for : Called → Duty → Bool
is_for who duty = same_called (called_of duty) who

-- how many slips a participant has; how many of these wait for a thread, are being called, still
-- pause at a moment, and are on the list
abbrev pub slips_of : Called → List Slip → ℕ
slips_of who slips = count_by (is_of who) slips

abbrev pub waits_of : Called → List Slip → ℕ
waits_of who slips = count_by (λ (slip : Slip). is_of who slip && waits slip) slips

abbrev pub calls_of : Called → List Slip → ℕ
calls_of who slips = count_by (λ (slip : Slip). is_of who slip && is_called slip) slips

abbrev pub pauses_of : Duration → Called → List Slip → ℕ
pauses_of now who slips = count_by (λ (slip : Slip). is_of who slip && pauses now slip) slips

abbrev pub listed_of : Called → List Slip → ℕ
listed_of who slips = count_by (λ (slip : Slip). is_of who slip && slip.is_listed) slips

-- how many of them wait without being on the list
abbrev pub hidden_of : Called → List Slip → ℕ
hidden_of who slips = count_by (λ (slip : Slip). is_of who slip && (waits slip && not slip.is_listed)) slips

-- whether a participant is being called for what the last list has: it is on the list, which was
-- there when the call began
abbrev pub is_current : Slip → Bool
is_current slip = is_called slip && (slip.is_listed && is_none slip.kept)

-- how many of its slips are being called in this way
abbrev pub current_of : Called → List Slip → ℕ
current_of who slips = count_by (λ (slip : Slip). is_of who slip && is_current slip) slips

-- how many duties of a list are for a participant, and how many of those that are queued at hosts
abbrev pub duties_for : Called → List Duty → ℕ
duties_for who duties = count_by (is_for who) duties

abbrev pub dues_of : Called → List AtHost → ℕ
dues_of who hosts = sum_by (λ (host : AtHost). duties_for who host.due) hosts

-- how many of the latter are queued at hosts that aren't on the list
abbrev pub spare_of : Called → List AtHost → ℕ
spare_of who hosts = sum_by (λ (host : AtHost). cond host.is_listed 0 (duties_for who host.due)) hosts

-- a list of duties names no participant twice
abbrev pub NamesNobodyTwice : List Duty → Type 0
NamesNobodyTwice duties = (who : Called) → duties_for who duties ≤ 1

-- whether the duty that is kept in a slip is for another participant
abbrev pub is_stray : Slip → Bool
is_stray slip = not (option_map_or (is_for slip.who) slip.kept true)

-- No participant has two slips. A duty is queued at a host only for a participant whose slip waits,
-- and only one such duty: so nothing else is queued for a participant that is being called. The
-- duty that is kept in a slip is for its own participant.
pub record HasEachOnce (calling : Calling) : Type 0 where
  pub slips : (who : Called) → slips_of who calling.slips ≤ 1
  pub waits : (who : Called) → dues_of who calling.now.hosts ≤ waits_of who calling.slips
  pub kept : count_by is_stray calling.slips ≡ 0

-- a participant may be called at this moment: it isn't being called, and no longer pauses
pub record MayBeCalled (now : Duration) (who : Called) (calling : Calling) : Type 0 where
  pub not_called : calls_of who calling.slips ≡ 0
  pub not_paused : pauses_of now who calling.slips ≡ 0

-- a participant is being called
abbrev pub IsBeingCalled : Called → Calling → Type 0
IsBeingCalled who calling = 0 < calls_of who calling.slips

-- other participants that are being called are left alone
abbrev pub LeavesOthers : Called → Calling → Calling → Type 0
LeavesOthers who old new = (other : Called) → same_called who other ≡ false → calls_of other new.slips ≡ calls_of other old.slips

-- A call of a participant begins: it was not being called, and it is called once now.
pub record BeginsOnce (who : Called) (old new : Calling) : Type 0 where
  pub before : calls_of who old.slips ≡ 0
  pub after : calls_of who new.slips ≡ 1
  pub others : LeavesOthers who old new

-- no call begins for what the last list has, to any participant
abbrev pub BeginsNoCall : Calling → Calling → Type 0
BeginsNoCall old new = (who : Called) → current_of who new.slips ≤ current_of who old.slips
