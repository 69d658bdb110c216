-- What happens between two lists.
use Rattle.std.specs.Prelude.{◌≡◌, ◌<◌, ◌∷◌, [], Bool, List, Option, Some}
use Rattle.std.specs.List.{Contains}
use Rattle.std.specs.declared.time.Duration.{Duration}
use Rattle.wire_callbacks.specs.declared.duty.Duty.{Duty}
use Rattle.node_schedule.specs.Calling.{Calling, IsTakenFrom, ended, forgotten}
use Rattle.node_schedule.specs.Named.{NamesNoOther}
use Rattle.node_schedule.specs.Once.{IsBeingCalled, current_of}
use Rattle.node_schedule.specs.Pausing.{IsBusyAt, IsFound, IsMissed}
use Rattle.node_schedule.specs.Resuming.{ResumesAt}
use Rattle.node_schedule.specs.Slips.{called_of, place_of}
use Rattle.node_schedule.specs.declared.pace.Pace.{Pace}
use Rattle.node_schedule.specs.declared.plight.CallFailure.{CallFailure}
use Rattle.node_schedule.specs.declared.plight.Plight.{Plight}
use Rattle.node_schedule.specs.declared.slip.Called.{Called}

-- A call begins; pauses are over; a call is over; its answer counted; its participant is busy; it
-- failed; what was learned is recorded, or lost
pub data Event : Type 0 where
  Begins : (duty : Duty) → Event
  Resumes : Event
  Ends : (duty : Duty) (pace : Pace) → Event
  Hears : (duty : Duty) → Event
  Pauses : (who : Called) → Event
  Misses : (duty : Duty) → Event
  Forgets : (who : Called) → Event

-- What each event does, given the calls that have begun since the list. Something happens to a
-- participant only while it is being called; and a call for what the list has is one of those that
-- have begun.
abbrev pub Happens : List Duty → Event → Calling → Calling → Type 0
Happens begun (Begins duty) old new = IsTakenFrom old new (Some duty)
Happens begun Resumes old new = NamesNoOther old new [] × ((now : Duration) × (may : Bool) × ResumesAt old.resumes_at now old new may)
Happens begun (Ends duty pace) old new = new ≡ ended duty pace old
Happens begun (Hears duty) old new = (now : Duration) × (plight : Option Plight) × IsFound (place_of (called_of duty) old.slips) duty now old new plight
Happens begun (Pauses who) old new = IsBeingCalled who old × ((now : Duration) × IsBusyAt (place_of who old.slips) now old new)
Happens begun (Misses duty) old new =
    IsBeingCalled (called_of duty) old × (0 < current_of (called_of duty) old.slips → Contains begun duty)
    × ((came : CallFailure) × (now : Duration) × (plight : Option Plight) × IsMissed (place_of (called_of duty) old.slips) duty came now old new plight)
Happens begun (Forgets who) old new = IsBeingCalled who old × (new ≡ forgotten who old)

-- the calls that have begun after this event too
abbrev pub begun_after : List Duty → Event → List Duty
begun_after begun (Begins duty) = duty ∷ begun
begun_after begun Resumes = begun
begun_after begun (Ends duty pace) = begun
begun_after begun (Hears duty) = begun
begun_after begun (Pauses who) = begun
begun_after begun (Misses duty) = begun
begun_after begun (Forgets who) = begun

abbrev pub begun_in : List Duty → List Event → List Duty
begun_in begun [] = begun
begun_in begun (event ∷ events) = begun_in (begun_after begun event) events

-- all these events happen, one after another
abbrev pub Happen : List Duty → List Event → Calling → Calling → Type 0
Happen begun [] old new = new ≡ old
Happen begun (event ∷ events) old new = (mid : Calling) × Happens begun event old mid × Happen (begun_after begun event) events mid new
