-- What is put for the caller threads, and what their calls resulted in.
use Rattle.std.specs.Prelude.{◌≡◌, ◌<◌, ◌⊎◌, ◌++◌, ◌∷◌, [], Bool, true, false, List, Option, None, Some, IsTrue, MatchBool, Result, MatchResult, if◌then◌else◌, length, nat_lt}
use Rattle.std.specs.Duration.{as_nanos}
use Rattle.std.specs.declared.time.Duration.{Duration}
use Rattle.state_ids.specs.Fronts.{IsBelow}
use Rattle.state_ids.specs.declared.outcome.Act.{Act}
use Rattle.state_ids.specs.declared.outcome.Act.TheVariants.{Compensate as ToCompensate, Complete as ToComplete}
use Rattle.state_ids.specs.declared.outcome.Outcome.TheVariants.{Busy}
use Rattle.wire_callbacks.specs.declared.answer.Heard.{Heard}
use Rattle.wire_callbacks.specs.declared.answer.Heard.TheVariants.{Outcome}
use Rattle.wire_callbacks.specs.declared.answer.Kind.{Kind}
use Rattle.wire_callbacks.specs.declared.answer.Kind.TheVariants.{After, Forget}
use Rattle.wire_callbacks.specs.declared.duty.Duty.{Duty}
use Rattle.node_inbox.specs.Tellings.{Told}
use Rattle.node_inbox.specs.Letters.{Said}
use Rattle.node_inbox.specs.declared.letter.Unheard.{Unheard}
use Rattle.node_schedule.specs.Calling.{Calling, IsTakenFrom, ended, forgotten}
use Rattle.node_schedule.specs.Named.{NamesNoOther, NamesOnly}
use Rattle.node_schedule.specs.Once.{HasEachOnce, MayBeCalled, NamesNobodyTwice, calls_of, current_of, dues_of, duties_for, slips_of}
use Rattle.node_schedule.specs.Pausing.{IsBusyAt, IsFound, IsMissed}
use Rattle.node_schedule.specs.Slips.{called_of, place_of}
use Rattle.node_schedule.specs.declared.pace.Pace.{Pace}
use Rattle.node_schedule.specs.declared.pace.Pace.TheVariants.{Hanging, Quick, Refusing, Slow}
use Rattle.node_schedule.specs.declared.plight.Plight.{Plight}
use Rattle.node_schedule.specs.declared.slip.Called.{Called}
use Rattle.node_agenda.specs.Backlogs.{IsKept, after_put, left_over}
use Rattle.node_agenda.specs.Mail.{Mail, after_news, put_off, stirred, with_asking, with_backlog, with_calls, with_letters, with_since}
use Rattle.node_agenda.specs.Since.{IsAnswerNotedIf, PausesEach, asked_now, at_rest, unheard}

-- A list replaces the duties: the calls that are due are those of the list, none other and none
-- twice; a participant that is being called is left alone, and no call under way counts as being
-- for the list. With enough memory, each participant that may be called is queued; one that is
-- neither on the list nor being called is forgotten.
pub record Lists (duties : List Duty) (now : Duration) (old new : Calling) (is_whole : Bool) : Type 0 where
  pub named : NamesNoOther old new duties
  pub once : NamesNobodyTwice duties → HasEachOnce old → HasEachOnce new
  pub called : (who : Called) → calls_of who new.slips ≡ calls_of who old.slips
  pub put : IsTrue is_whole → NamesNobodyTwice duties → (who : Called) → 0 < duties_for who duties → MayBeCalled now who old → 0 < dues_of who new.now.hosts
  pub forgotten : (who : Called) → duties_for who duties ≡ 0 → calls_of who old.slips ≡ 0 → slips_of who new.slips ≡ 0
  pub only : NamesOnly new duties
  pub outdated : (who : Called) → current_of who new.slips ≡ 0

-- The duties of a list are put, except those of participants that were heard from since it was
-- asked for. Then the participants pause that answered meanwhile that they are busy. If memory ran
-- out, a new list is asked for when deadlines are next checked.
pub record IsPut (duties : List Duty) (now : Duration) (old new : Mail) : Type 0 where
  pub is_whole : Bool
  pub listed : Calling
  pub lists : Lists (unheard old.since.heard duties) now old.calls listed is_whole
  pub pauses : PausesEach now old.since.busy listed new.calls
  pub rest : new ≡ with_since at_rest (with_calls new.calls (if is_whole then old else with_asking (put_off old.asking) old))

-- a list is discarded, and a new one is asked for at once: because memory ran out, it isn't known
-- which participants were heard from
pub record IsLetGo (now : Duration) (old new : Mail) : Type 0 where
  pub pauses : PausesEach now old.since.busy old.calls new.calls
  pub rest : new ≡ with_since at_rest (with_calls new.calls (with_asking (stirred old.asking) old))

abbrev pub IsListed : List Duty → Duration → (old new : Mail) → Type 0
IsListed duties now old new = MatchBool old.since.is_whole (IsPut duties now old new) (IsLetGo now old new)

-- a list is asked for now: it takes into account what was learned before, and participants whose
-- pause was put off now pause
pub record IsAskedNow (now : Duration) (old new : Mail) : Type 0 where
  pub pauses : PausesEach now old.since.busy old.calls new.calls
  pub rest : new ≡ with_since asked_now (with_calls new.calls old)

-- the duty that a thread calls for next, as the hosts' turns demand; none once the program is to
-- end
abbrev pub IsDueFrom : Mail → Mail → Option Duty → Type 0
IsDueFrom old new due = MatchBool old.has_ended ((due ≡ None) × (new ≡ old)) (IsTakenFrom old.calls new.calls due × (new ≡ with_calls new.calls old))

-- a letter that was lost because memory ran out: its participant is called again
abbrev pub lost : Said → Mail → Mail
lost said m = with_asking (put_off m.asking) (with_calls (forgotten (called_of said.duty) m.calls) m)

-- a letter is put last, or lost
abbrev pub IsPutLast : Said → Mail → Mail → Type 0
IsPutLast said old new = (new ≡ with_letters (old.letters ++ said ∷ []) old) ⊎ (new ≡ lost said old)

-- the pace of a host whose call took this long, and was heard or failed: quick, if it took less
-- than a second
abbrev pub pace_of : Duration → Bool → Pace
pace_of time true = if nat_lt (as_nanos time) 1_000_000_000 then Quick else Slow
pace_of time false = if nat_lt (as_nanos time) 1_000_000_000 then Refusing else Hanging

-- nothing was learned that counts: the call is over, and the participant pauses
pub record IsUnheard (time now : Duration) (unheard : Unheard) (old new : Mail) (plight : Option Plight) : Type 0 where
  pub missed : IsMissed (place_of (called_of unheard.due) old.calls.slips) unheard.due unheard.came now (ended unheard.due (pace_of time false) old.calls) new.calls plight
  pub rest : new ≡ with_calls new.calls old

-- something was learned: the call is over, and the letter is put last
pub record IsHeard (time now : Duration) (said : Said) (old new : Mail) (plight : Option Plight) : Type 0 where
  pub calls : Calling
  pub found : IsFound (place_of (called_of said.duty) old.calls.slips) said.duty now (ended said.duty (pace_of time true) old.calls) calls plight
  pub put : IsPutLast said (with_calls calls old) new

abbrev pub HearsOf : Duration → Duration → Result Said Unheard → Mail → Mail → Option Plight → Type 0
HearsOf time now came old new plight =
    MatchResult came (λ (said : Said). IsHeard time now said old new plight) (λ (unheard : Unheard). IsUnheard time now unheard old new plight)

-- a busy participant pauses, and any other is forgotten as called
abbrev pub IsAnswered : Heard → Called → Duration → Calling → Calling → Type 0
IsAnswered (Outcome Busy) who now old new = IsBusyAt (place_of who old.slips) now old new
IsAnswered _ who now old new = new ≡ forgotten who old

-- whether it makes no other participant due: a completion, or the notification of an end
abbrev pub is_complete : Act → Bool
is_complete ToComplete = true
is_complete ToCompensate = false

abbrev pub is_harmless : Kind → Act → Bool
is_harmless After act = true
is_harmless Forget act = false
is_harmless _ act = is_complete act

-- an answer is stored; while a list is pending, a busy participant pauses only once that is put,
-- and counts as being called until then
pub record IsNoted (said : Said) (now : Duration) (old new : Mail) : Type 0 where
  pub waits : Bool
  pub noted : IsAnswerNotedIf said.heard (called_of said.duty) old.since new.since waits
  pub answered : MatchBool waits (new.calls ≡ old.calls) (IsAnswered said.heard (called_of said.duty) now old.calls new.calls)
  pub rest : new ≡ after_news (is_harmless said.duty.kind said.duty.act) (with_calls new.calls (with_since new.since old))

-- a telling of another node waits to be taken, unless nothing in it is new
abbrev pub HasNews : Told → Mail → Type 0
HasNews told m = (length told.frame.front ≡ length m.known.front) × (IsBelow told.frame.front m.known.front → ⊥)

abbrev pub IsPutIn : Told → Mail → Mail → Result (Option Told) Told → Type 0
IsPutIn told old new result =
    MatchResult result (λ (left : Option Told). HasNews told old × (left ≡ left_over told old.backlog) × (new ≡ with_backlog (after_put told old.backlog) old))
    (λ (back : Told). (HasNews told old → ⊥) × (back ≡ told) × (new ≡ old))

-- one that the journal couldn't take waits again
pub record IsReturned (now : Duration) (told : Told) (old new : Mail) : Type 0 where
  pub kept : IsKept now told old.backlog new.backlog
  pub rest : new ≡ with_backlog new.backlog old
