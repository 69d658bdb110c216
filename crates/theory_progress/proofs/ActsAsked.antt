-- what a call that asks to act says of its participant, and the call of a participant of which
-- something is due
use Rattle.std.proofs.Common.{◌≡◌, inl, inr, ◌&&◌, ℕ, List, refl, ap, ◌∙◌, Bool, true, false, cond, Option, Some, None, is_some}
use mathlib.Core.Bool.{not}
use Rattle.std.specs.List.{list_any}
use Rattle.std.specs.Option.{option_map_or}
use Rattle.state_ids.specs.Ids.{Id}
use Rattle.state_ids.specs.States.{completing, compensating}
use Rattle.state_ids.specs.declared.status.MemberStatus.TheVariants.{Compensated, Completed}
use Rattle.state_ids.specs.declared.outcome.Act.{Act}
use Rattle.state_ids.specs.declared.outcome.Act.TheVariants.{Complete as CompleteAct, Compensate as CompensateAct}
use Rattle.state_ids.specs.declared.outcome.Outcome.{Outcome}
use Rattle.state_ids.specs.declared.outcome.Outcome.TheVariants.{Busy, Done, Failed}
use Rattle.state_ids.specs.declared.outcome.Verdict.{Verdict}
use Rattle.state_ids.specs.declared.outcome.Verdict.TheVariants.{Close, Cancel}
use Rattle.state_facts.specs.declared.fact.Fact.{Fact}
use Rattle.state_facts.specs.Duties.{has_to_compensate, holds_back, is_compensation_due, is_pending, is_uncompensated, saga_path, topmost_cancelled}
use Rattle.state_facts.specs.Links.{Links}
use Rattle.state_facts.specs.Sets.{chain, demands, heard, is_decided, is_demanded, is_open, is_participant, is_under, is_held, links_of, status_by, want}
use Rattle.state_forest.specs.Dues.{is_complete_duty}
use Rattle.state_forest.proofs.Bools.{and_left, and_right}
use Rattle.state_forest.proofs.SagaOrder.{last_some}
use Rattle.wire_callbacks.specs.declared.answer.Kind.{Kind}
use Rattle.wire_callbacks.specs.declared.answer.Kind.TheVariants.{Complete, Compensate, Status, Forget, After}
use Rattle.wire_callbacks.specs.declared.duty.Duty.{Duty}
use Rattle.wire_callbacks.specs.CallDuties.{is_owed}
use Rattle.wire_callbacks.proofs.DutiesMade.{IsCalled, to_compensate, to_complete}
use Rattle.theory_progress.specs.Calls.{IsActUnder, asks_to_act}

-- Participants, given what is wanted and heard of them

-- the outcome that was heard of an act
abbrev pub heard_of : Act → Option Outcome → Option Outcome → Option Outcome
heard_of CompleteAct a b = a
heard_of CompensateAct a b = b

-- a participant that is asked for an act, and has not ended it, is open
pub asked_open : (w : Option Verdict) (links : Links) (act : Act) (a b : Option Outcome) → demands w links act ≡ true → is_pending (heard_of act a b) ≡ true → is_open (status_by w links a b) ≡ true
asked_open None links CompleteAct a b e p = absurd cc
asked_open None links CompensateAct a b e p = absurd cc
asked_open (Some Close) links CompensateAct a b e p = absurd cc
asked_open (Some Cancel) links CompleteAct a b e p = absurd cc
asked_open (Some Close) links CompleteAct a b e p = let given : is_some links.complete ≡ true = e in rw given (by a p)
  where
    by : (a : Option Outcome) → is_pending a ≡ true → is_open (completing a) ≡ true
    by None p = refl
    by (Some Busy) p = refl
    by (Some Done) p = absurd cc
    by (Some Failed) p = absurd cc
asked_open (Some Cancel) links CompensateAct a b e p = let given : is_some links.compensate ≡ true = e in rw given (by b p)
  where
    by : (b : Option Outcome) → is_pending b ≡ true → is_open (compensating b) ≡ true
    by None p = refl
    by (Some Busy) p = refl
    by (Some Done) p = absurd cc
    by (Some Failed) p = absurd cc

-- a participant that has ended the act it is asked for is final
pub asked_final : (w : Option Verdict) (links : Links) (act : Act) (a b : Option Outcome) → demands w links act ≡ true → is_pending (heard_of act a b) ≡ false → is_open (status_by w links a b) ≡ false
asked_final None links CompleteAct a b e p = absurd cc
asked_final None links CompensateAct a b e p = absurd cc
asked_final (Some Close) links CompensateAct a b e p = absurd cc
asked_final (Some Cancel) links CompleteAct a b e p = absurd cc
asked_final (Some Close) links CompleteAct a b e p = let given : is_some links.complete ≡ true = e in rw given (by a p)
  where
    by : (a : Option Outcome) → is_pending a ≡ false → is_open (completing a) ≡ false
    by None p = absurd cc
    by (Some Busy) p = absurd cc
    by (Some Done) p = refl
    by (Some Failed) p = refl
asked_final (Some Cancel) links CompensateAct a b e p = let given : is_some links.compensate ≡ true = e in rw given (by b p)
  where
    by : (b : Option Outcome) → is_pending b ≡ false → is_open (compensating b) ≡ false
    by None p = absurd cc
    by (Some Busy) p = absurd cc
    by (Some Done) p = refl
    by (Some Failed) p = refl

-- a participant that is open when something is wanted is asked for the wanted act, and has not
-- ended it
pub open_closing : (links : Links) (a b : Option Outcome) → is_open (status_by (Some Close) links a b) ≡ true → (is_some links.complete ≡ true) × (is_pending a ≡ true)
open_closing links a b e = by (is_some links.complete) a e
  where
    by : (given : Bool) (a : Option Outcome) → is_open (cond given (completing a) Completed) ≡ true → (given ≡ true) × (is_pending a ≡ true)
    by false a e = absurd cc
    by true None e = (refl, refl)
    by true (Some Busy) e = (refl, refl)
    by true (Some Done) e = absurd cc
    by true (Some Failed) e = absurd cc

pub open_cancelled : (links : Links) (a b : Option Outcome) → is_open (status_by (Some Cancel) links a b) ≡ true → (is_some links.compensate ≡ true) × (is_pending b ≡ true)
open_cancelled links a b e = by (is_some links.compensate) b e
  where
    by : (given : Bool) (b : Option Outcome) → is_open (cond given (compensating b) Compensated) ≡ true → (given ≡ true) × (is_pending b ≡ true)
    by false b e = absurd cc
    by true None e = (refl, refl)
    by true (Some Busy) e = (refl, refl)
    by true (Some Done) e = absurd cc
    by true (Some Failed) e = absurd cc

-- what was heard of an act of a participant
pub heard_act : (S : List Fact) (l : Id) (m : ℕ) (act : Act) → heard_of act (heard S l m CompleteAct) (heard S l m CompensateAct) ≡ heard S l m act
heard_act S l m CompleteAct = refl
heard_act S l m CompensateAct = refl

-- What is due of a participant that is asked to act

abbrev pub is_due : List Fact → Act → Id → ℕ → Bool
is_due S CompleteAct l m = is_complete_duty S l m
is_due S CompensateAct l m = is_compensation_due S l m

pub record IsAsked (S : List Fact) (l : Id) (m : ℕ) (act : Act) : Type 0 where
  pub known : is_participant S l m ≡ true
  pub demanded : is_demanded S l m act ≡ true
  pub pending : is_pending (heard S l m act) ≡ true

-- an LRA that has a topmost cancelled LRA wants Cancel
pub cancels : (S : List Fact) (l a : Id) → topmost_cancelled S l ≡ Some a → want S l ≡ Some Cancel
cancels S l a top = let some : list_any (is_decided S Cancel) (chain S l) ≡ true = last_some (is_decided S Cancel) (chain S l) a top in rw some refl

due_asked : (S : List Fact) (l : Id) (m : ℕ) (act : Act) → is_due S act l m ≡ true → IsAsked S l m act
due_asked S l m CompleteAct e =
    let rest = and_right (is_participant S l m) _ e in
    record {
      known = and_left (is_participant S l m) _ e;
      demanded = and_left (is_demanded S l m CompleteAct) _ rest;
      pending = and_right (is_demanded S l m CompleteAct) _ rest;
    }
due_asked S l m CompensateAct e = by (topmost_cancelled S l) refl e
  where
    by : (o : Option Id) → topmost_cancelled S l ≡ o → option_map_or (λ a. is_participant S l m && (is_uncompensated S l m && not (list_any (λ f. holds_back S a (saga_path S l m) f.body) S))) o false ≡ true → IsAsked S l m CompensateAct
    by None top f = absurd cc
    by (Some a) top f =
        let pending : is_uncompensated S l m ≡ true = and_left (is_uncompensated S l m) _ (and_right (is_participant S l m) _ f) in
        let has = joined (links_of S l m) refl pending in
        record { known = and_left (is_participant S l m) _ f; demanded = has.0; pending = has.1 }
      where
        joined : (k : Option Links) → links_of S l m ≡ k → option_map_or (λ links. has_to_compensate links (heard S l m CompensateAct)) k false ≡ true → (is_demanded S l m CompensateAct ≡ true) × (is_pending (heard S l m CompensateAct) ≡ true)
        joined None t g = absurd cc
        joined (Some links) t g =
            let wants = cancels S l a top in
            let given : is_some links.compensate ≡ true = and_left (is_some links.compensate) _ g in (
              ap (λ k. option_map_or (λ (x : Links). demands (want S l) x CompensateAct) k false) t ∙ ap (λ w. demands w links CompensateAct) wants ∙ given,
              and_right (is_some links.compensate) _ g,
            )

pub owed_due : (S : List Fact) (kind : Kind) (act : Act) (l : Id) (m : ℕ) → asks_to_act kind ≡ true → is_owed S kind act l m ≡ true → is_due S act l m ≡ true
owed_due S Complete CompleteAct l m asks e = and_left (is_complete_duty S l m) _ e
owed_due S Complete CompensateAct l m asks e = absurd cc
owed_due S Compensate CompleteAct l m asks e = absurd cc
owed_due S Compensate CompensateAct l m asks e = and_left (is_compensation_due S l m) _ e
owed_due S Status CompleteAct l m asks e = and_left (is_complete_duty S l m) _ e
owed_due S Status CompensateAct l m asks e = and_left (is_compensation_due S l m) _ e
owed_due S Forget act l m asks e = absurd cc
owed_due S After act l m asks e = absurd cc

-- the participant of such a call is asked for its act
pub call_asked : (S : List Fact) (l : Id) (call : Duty) → IsActUnder S l call → IsAsked S call.id call.member call.act
call_asked S l call due = due_asked S call.id call.member call.act (owed_due S call.kind call.act call.id call.member due.asks due.duty.owed)

-- a participant of which the act is due is called
pub call_due : (S : List Fact) (l : Id) (act : Act) (d : Id) (m : ℕ) → d.home ≡ l.home → is_held S d ≡ true → is_under S l d ≡ true → is_due S act d m ≡ true → (call : Duty) × IsActUnder S l call
call_due S l act d m home held under due = by act due
  where
    made : (kind : Kind) → asks_to_act kind ≡ true → IsCalled l.home S d kind → (call : Duty) × IsActUnder S l call
    made kind asks is = (
      is.call,
      record { duty = is.duty; under = ap (is_under S l) is.lra ∙ under; asks = elim is.so [ inl so ↦ ap asks_to_act so ∙ asks | inr so ↦ ap asks_to_act so ] },
    )

    by : (a : Act) → is_due S a d m ≡ true → (call : Duty) × IsActUnder S l call
    by CompleteAct e = made Complete refl (to_complete l.home S d m home held e)
    by CompensateAct e = made Compensate refl (to_compensate l.home S d m home held e)
