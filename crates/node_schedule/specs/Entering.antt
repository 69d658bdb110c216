-- What happens to a duty of a list, and to a participant whose pause is over.
use Rattle.std.specs.Prelude.{◌≡◌, Bool, MatchBool, None, Some, false, true}
use Rattle.std.specs.declared.time.Duration.{Duration}
use Rattle.wire_callbacks.specs.declared.duty.Duty.{Duty}
use Rattle.node_schedule.specs.declared.slip.Slip.{Slip}
use Rattle.node_schedule.specs.Slips.{is_called, is_over, pauses, waits}
use Rattle.node_schedule.specs.Turns.{IsPut, Turns, changed_at, listed, place_of, with_hosts}

-- the duty's host is recorded as listed, and its queue stays
abbrev pub noted : Duty → Turns → Turns
noted duty now = with_hosts (changed_at (place_of duty now.hosts) listed now.hosts) now

-- a participant that is being called or pauses is on the list, and is called for this next
abbrev pub keeping : Duty → Slip → Slip
keeping duty slip = record { who = slip.who; pause = slip.pause; stand = slip.stand; kept = Some duty; is_listed = true; vain = slip.vain }

-- a participant that may be called waits for a thread, if its duty was queued; the length of its
-- pause and its failed calls are kept
pub record IsMadeToWait (is_put : Bool) (old new : Slip) : Type 0 where
  pub who : new.who ≡ old.who
  pub pause : new.pause ≡ old.pause
  pub waits : waits new ≡ is_put
  pub not_called : is_called new ≡ false
  pub not_paused : (now : Duration) → pauses now new ≡ false
  pub kept : new.kept ≡ None
  pub listed : new.is_listed ≡ true
  pub vain : new.vain ≡ old.vain

-- A duty of a list is recorded. A participant that is being called stays so, and one that pauses
-- keeps its pause: each is called next for the duty. The duty of any other participant is queued at
-- its host, and the participant waits for a thread.
abbrev pub IsEntered : Duration → Duty → Slip → Slip → Turns → Turns → Bool → Type 0
IsEntered now duty old new before after is_put =
    MatchBool (is_over now old)
    (IsPut duty before after is_put × IsMadeToWait is_put old new)
    ((new ≡ keeping duty old) × (after ≡ noted duty before) × (is_put ≡ true))
