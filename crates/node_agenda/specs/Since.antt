-- Which participants were heard from while a list of duties is pending: from when the list was
-- asked for until it is put. The list calls none of them.
use Rattle.std.specs.Prelude.{◌≡◌, ◌⊎◌, ◌++◌, ◌∷◌, [], Bool, List, Option, None, Some, MatchBool, false, filter, not, true}
use Rattle.std.specs.List.{list_any}
use Rattle.std.specs.declared.time.Duration.{Duration}
use Rattle.state_ids.specs.declared.outcome.Outcome.TheVariants.{Busy}
use Rattle.wire_callbacks.specs.declared.answer.Heard.{Heard}
use Rattle.wire_callbacks.specs.declared.answer.Heard.TheVariants.{Outcome}
use Rattle.wire_callbacks.specs.declared.duty.Duty.{Duty}
use Rattle.node_schedule.specs.Calling.{Calling}
use Rattle.node_schedule.specs.Named.{NamesNoOther}
use Rattle.node_schedule.specs.Pausing.{IsBusyAt}
use Rattle.node_schedule.specs.Slips.{called_of, place_of, same_called}
use Rattle.node_schedule.specs.declared.slip.Called.{Called}

-- whether a list is pending; whether every participant that was heard from since is recorded, which
-- isn't so if memory ran out; which participants were heard from; and whose pause begins once the
-- list is put, because they answered that they are busy
pub record Since : Type 0 where
  pub is_out : Bool
  pub is_whole : Bool
  pub heard : List Called
  pub busy : List Called

-- no list is pending; and one is, which was asked for now
abbrev pub at_rest : Since
at_rest = record { is_out = false; is_whole = true; heard = []; busy = [] }

abbrev pub asked_now : Since
asked_now = record { is_out = true; is_whole = true; heard = []; busy = [] }

abbrev pub was_heard : List Called → Called → Bool
was_heard heard who = list_any (same_called who) heard

-- a participant was heard from, maybe not for the first time
abbrev pub IsAlsoHeard : Called → (old new : Since) → Type 0
IsAlsoHeard who old new =
    MatchBool (was_heard old.heard who) (new ≡ old)
    ((new ≡ record old { heard = old.heard ++ who ∷ [] }) ⊎ (new ≡ record old { is_whole = false }))

-- it is recorded that a participant was heard from while a list is pending
abbrev pub IsMentioned : Option Called → (old new : Since) → Type 0
IsMentioned None old new = new ≡ old
IsMentioned (Some who) old new = MatchBool old.is_out (IsAlsoHeard who old new) (new ≡ old)

-- the pause of a busy participant is put off, unless memory ran out
abbrev pub WaitsWithPause : Heard → Called → (old new : Since) → (waits : Bool) → Type 0
WaitsWithPause (Outcome Busy) who old new waits = MatchBool waits (new ≡ record old { busy = old.busy ++ who ∷ [] }) (new ≡ record old { is_whole = false })
WaitsWithPause _ who old new waits = (new ≡ old) × (waits ≡ false)

-- an answer was stored: its participant was heard from, and while a list is pending its pause is
-- put off if it is busy
pub record IsAnswerNoted (heard : Heard) (who : Called) (old new : Since) (waits : Bool) : Type 0 where
  pub mentioned : Since
  pub mentions : IsAlsoHeard who old mentioned
  pub pause : WaitsWithPause heard who mentioned new waits

abbrev pub IsAnswerNotedIf : Heard → Called → (old new : Since) → (waits : Bool) → Type 0
IsAnswerNotedIf heard who old new waits = MatchBool old.is_out (IsAnswerNoted heard who old new waits) ((new ≡ old) × (waits ≡ false))

-- the duties of a list whose participants weren't heard from
abbrev pub is_unheard : List Called → Duty → Bool
is_unheard heard duty = not (was_heard heard (called_of duty))

abbrev pub unheard : List Called → List Duty → List Duty
unheard heard duties = filter (is_unheard heard) duties

-- each of these participants pauses, one after another
abbrev pub PausesEach : Duration → List Called → (old new : Calling) → Type 0
PausesEach now [] old new = new ≡ old
PausesEach now (who ∷ rest) old new =
    (between : Calling) × IsBusyAt (place_of who old.slips) now old between × NamesNoOther old between [] × PausesEach now rest between new

-- a participant is recorded as heard from; or the record is incomplete
abbrev pub IsHeardIn : Called → Since → Type 0
IsHeardIn who since = (was_heard since.heard who ≡ true) ⊎ (since.is_whole ≡ false)
