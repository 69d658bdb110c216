-- Groups of statuses, by which services ask for LRAs.
use Rattle.std.specs.Prelude.{◌||◌, Bool, true, false}
use Rattle.state_ids.specs.declared.status.LraStatus.{LraStatus}
use Rattle.state_ids.specs.declared.status.LraStatus.TheVariants.{Active, Cancelled, Cancelling, Closed, Closing, FailedToCancel, FailedToClose}

-- whether an LRA is on its way to its end; whether it failed there; and whether the standard calls
-- it recovering, which is either of these
abbrev pub is_to_end : LraStatus → Bool
is_to_end Closing = true
is_to_end Cancelling = true
is_to_end _ = false

abbrev pub is_failed : LraStatus → Bool
is_failed FailedToClose = true
is_failed FailedToCancel = true
is_failed _ = false

abbrev pub is_recovering : LraStatus → Bool
is_recovering status = is_to_end status || is_failed status

-- whether an LRA goes the way of a close; and that of a cancel
abbrev pub is_closed : LraStatus → Bool
is_closed Closing = true
is_closed Closed = true
is_closed FailedToClose = true
is_closed _ = false

abbrev pub is_cancelled : LraStatus → Bool
is_cancelled Cancelling = true
is_cancelled Cancelled = true
is_cancelled FailedToCancel = true
is_cancelled _ = false

-- whether an LRA goes the way that a close, or a cancel, asks for
abbrev pub goes_so : (closes : Bool) → LraStatus → Bool
goes_so true status = is_closed status
goes_so false status = is_cancelled status
