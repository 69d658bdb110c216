-- What happens to a call that was due.
use Rattle.std.specs.Prelude.{◌≡◌, ◌⊎◌, ◌&&◌, ℕ, Bool, true, false, Some, List}
use mathlib.Core.Bool.{not}
use Rattle.state_ids.specs.Ids.{Id}
use Rattle.state_ids.specs.declared.outcome.Act.{Act}
use Rattle.state_ids.specs.declared.outcome.Act.TheVariants.{Complete, Compensate}
use Rattle.state_ids.specs.declared.outcome.Verdict.TheVariants.{Cancel}
use Rattle.state_facts.specs.declared.fact.Body.{Body}
use Rattle.state_facts.specs.declared.fact.Body.TheVariants.{Decide, Purge}
use Rattle.state_facts.specs.declared.fact.Fact.{Fact}
use Rattle.state_facts.specs.Duties.{is_forgot, is_pending, is_told_of, is_uncompensated, topmost_cancelled}
use Rattle.state_facts.specs.Lists.{In}
use Rattle.state_facts.specs.Sets.{heard, is_held, is_participant, is_under, reported, want}
use Rattle.theory_history.specs.Views.{View}
use Rattle.wire_callbacks.specs.declared.answer.Kind.{Kind}
use Rattle.wire_callbacks.specs.declared.answer.Kind.TheVariants.{After, Forget, Status}
use Rattle.wire_callbacks.specs.declared.duty.Duty.{Duty}
use Rattle.wire_callbacks.specs.CallDuties.{IsDuty}
use Rattle.wire_callbacks.specs.ViewDuties.{duties_of}
use Rattle.theory_progress.specs.Calls.{IsActUnder, asks_to_act, is_answered, saga_of}

-- the same participant is to be called for the same, or is to be asked for its status because it
-- said meanwhile that it is busy
pub record IsStillDue (home : ℕ) (T : List Fact) (call : Duty) : Type 0 where
  pub later : Duty
  pub due : IsDuty home T later
  pub id : later.id ≡ call.id
  pub member : later.member ≡ call.member
  pub act : later.act ≡ call.act
  pub kind : (later.kind ≡ call.kind) ⊎ ((asks_to_act call.kind ≡ true) × (later.kind ≡ Status))

-- An LRA of the chain was cancelled above all that had been. So a completion is called no more, and
-- a compensation waits for its turn in the greater saga, where it must still be done
pub record IsOvertaken (S T : List Fact) (call : Duty) : Type 0 where
  pub asks : asks_to_act call.kind ≡ true
  pub held : is_held T call.id ≡ true
  pub top : Id
  pub cancelled : topmost_cancelled T call.id ≡ Some top
  pub other : topmost_cancelled S call.id ≡ Some top → ⊥
  pub known : is_participant T call.id call.member ≡ true
  pub pending : call.act ≡ Compensate → is_uncompensated T call.id call.member ≡ true

-- What happened by the set T to a call that was due by the earlier set S: it is still due, it was
-- answered, what it was for was purged, or a cancel overtook it
pub data IsKept (home : ℕ) (S T : List Fact) (call : Duty) : Type 0 where
  StillDue : IsStillDue home T call → IsKept home S T call
  Answered : is_answered call.kind T call.id call.member call.act ≡ true → IsKept home S T call
  Purged : is_held T call.id ≡ false → IsKept home S T call
  Overtaken : IsOvertaken S T call → IsKept home S T call

-- a call is done with: it was answered, or it asked to complete and its LRA was cancelled
abbrev pub IsDone : List Fact → Duty → Type 0
IsDone T call =
    (is_answered call.kind T call.id call.member call.act ≡ true) ⊎ ((call.act ≡ Complete) × (want T call.id ≡ Some Cancel))

-- Why a call is no longer due

-- the body is the answer to a call: the end of the act that was asked for, or that the participant
-- was told
abbrev pub answers : Kind → Id → ℕ → Act → Body → Bool
answers Forget l m act body = is_forgot l m body
answers After l m act body = is_told_of l m body
answers _ l m act body = not (is_pending (reported l m act body))

-- the body ends a call: it is the answer, it purges an LRA of the call's chain, or it cancels one
-- and the call asks to act
abbrev pub ends_call : List Fact → Duty → Body → Bool
ends_call T call (Purge root) = is_under T root call.id
ends_call T call (Decide l Cancel) = asks_to_act call.kind && is_under T l call.id
ends_call T call body = answers call.kind call.id call.member call.act body

-- T has such a fact, which S doesn't have
pub record IsEnded (S T : List Fact) (call : Duty) : Type 0 where
  pub fact : Fact
  pub there : In fact T
  pub new : In fact S → ⊥
  pub ends : ends_call T call fact.body ≡ true

-- Compensations

-- the call asks a participant to compensate, or how far it is with that
pub record IsToCompensate (call : Duty) : Type 0 where
  pub asks : asks_to_act call.kind ≡ true
  pub act : call.act ≡ Compensate

-- A call to compensate is not lost, by a later view of the node and its set T: the participant is
-- still on the view's list of calls; or its end was heard; or it must still compensate, and waits
-- for one in its saga that is on the list
pub data IsNotLost (node : ℕ) (T : List Fact) (view : View) (call : Duty) : Type 0 where
  Listed : (later : Duty) → In later (duties_of view node)
      → (later.id ≡ call.id) × (later.member ≡ call.member) × (later.act ≡ Compensate) → IsNotLost node T view call
  Ended : is_pending (heard T call.id call.member Compensate) ≡ false → IsNotLost node T view call
  Waits : is_uncompensated T call.id call.member ≡ true → (next : Duty) → In next (duties_of view node)
      → IsActUnder T (saga_of T call.id) next → IsNotLost node T view call

-- the participant m of l has to compensate, now or later: it gave a link for that, its LRA is
-- cancelled, and no end was heard
pub record HasToCompensate (S : List Fact) (l : Id) (m : ℕ) : Type 0 where
  pub held : is_held S l ≡ true
  pub wants : want S l ≡ Some Cancel
  pub known : is_participant S l m ≡ true
  pub pending : is_uncompensated S l m ≡ true

-- its end was heard, or it still has to compensate and a participant of its saga is on the node's
-- list of calls
abbrev pub IsEndedOrWaits : (node : ℕ) (T : List Fact) (view : View) (l : Id) (m : ℕ) → Type 0
IsEndedOrWaits node T view l m =
    (is_pending (heard T l m Compensate) ≡ false)
    ⊎ (HasToCompensate T l m × ((next : Duty) × In next (duties_of view node) × IsActUnder T (saga_of T l) next))
