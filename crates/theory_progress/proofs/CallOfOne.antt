-- the call of one participant of which an act is due
use Rattle.std.proofs.Common.{◌≡◌, ℕ, List, refl, sym, ap, ◌∙◌, Bool, true, false, Option, Some, None, is_some}
use mathlib.Core.Bool.{not}
use Rattle.std.specs.Option.{option_map_or}
use Rattle.state_ids.specs.Ids.{Id}
use Rattle.state_ids.specs.declared.outcome.Act.{Act}
use Rattle.state_ids.specs.declared.outcome.Act.TheVariants.{Complete as CompleteAct, Compensate as CompensateAct}
use Rattle.state_facts.specs.declared.fact.Fact.{Fact}
use Rattle.state_facts.specs.Duties.{is_compensation_due}
use Rattle.state_facts.specs.Links.{Links}
use Rattle.state_facts.specs.Sets.{heard, is_held, is_under, links_of, parent_of}
use Rattle.state_forest.specs.Dues.{is_complete_duty}
use Rattle.state_forest.proofs.Bools.{and_right}
use Rattle.theory_history.proofs.Basics.{both_true}
use Rattle.wire_callbacks.specs.declared.answer.Kind.{Kind}
use Rattle.wire_callbacks.specs.declared.answer.Kind.TheVariants.{Complete, Compensate, Status}
use Rattle.wire_callbacks.specs.declared.duty.Duty.{Duty}
use Rattle.wire_callbacks.specs.CallDuties.{asks_status, is_busy, is_owed, link_for, shown_for}
use Rattle.theory_progress.specs.Calls.{IsActUnder, asks_to_act}

abbrev pub call_of : List Fact → Kind → Act → Id → ℕ → List ℕ → Duty
call_of S kind act d m link = record { kind = kind; act = act; id = d; member = m; link = link; parent = parent_of S d; shows = shown_for S kind d }

-- a call under l asks this participant for the act
pub record IsCalledUnder (S : List Fact) (l d : Id) (m : ℕ) (act : Act) : Type 0 where
  pub kind : Kind
  pub link : List ℕ
  pub is : IsActUnder S l (call_of S kind act d m link)

-- a participant under l that is held
pub record IsHeldUnder (S : List Fact) (l d : Id) (m : ℕ) (links : Links) : Type 0 where
  pub own : d.home ≡ l.home
  pub held : is_held S d ≡ true
  pub under : is_under S l d ≡ true
  pub joined : links_of S d m ≡ Some links

some_link : (o : Option (List ℕ)) → is_some o ≡ true → (link : List ℕ) × (o ≡ Some link)
some_link None e = absurd cc
some_link (Some link) e = (link, refl)

called : (S : List Fact) (l d : Id) (m : ℕ) (links : Links) (act : Act) (kind : Kind) → IsHeldUnder S l d m links → asks_to_act kind ≡ true → is_owed S kind act d m ≡ true → is_some (link_for kind links) ≡ true → IsCalledUnder S l d m act
called S l d m links act kind who asks owed given =
    let link = some_link (link_for kind links) given in
    record {
      kind = kind;
      link = link.0;
      is = record {
        duty = record {
          own = who.own;
          held = who.held;
          owed = owed;
          called = ap (λ (o : Option Links). option_map_or (link_for kind) o None) who.joined ∙ link.1;
          nested = refl;
          shown = refl;
        };
        under = who.under;
        asks = asks;
      };
    }

-- the link for the participant's status is given
status_given : (S : List Fact) (d : Id) (m : ℕ) (links : Links) (act : Act) → links_of S d m ≡ Some links → asks_status S d m act ≡ true → is_some links.status ≡ true
status_given S d m links act joined e =
    sym (ap (λ (o : Option Links). option_map_or (λ (x : Links). is_some x.status) o false) joined) ∙ and_right (is_busy (heard S d m act)) _ e

pub complete_call : (S : List Fact) (l d : Id) (m : ℕ) (links : Links) → IsHeldUnder S l d m links → is_complete_duty S d m ≡ true → is_some links.complete ≡ true → IsCalledUnder S l d m CompleteAct
complete_call S l d m links who due given = by (asks_status S d m CompleteAct) refl
  where
    by : (b : Bool) → asks_status S d m CompleteAct ≡ b → IsCalledUnder S l d m CompleteAct
    by true e = called S l d m links CompleteAct Status who refl (both_true (is_complete_duty S d m) _ due e) (status_given S d m links CompleteAct who.joined e)
    by false e = called S l d m links CompleteAct Complete who refl (both_true (is_complete_duty S d m) _ due (ap not e)) given

pub compensate_call : (S : List Fact) (l d : Id) (m : ℕ) (links : Links) → IsHeldUnder S l d m links → is_compensation_due S d m ≡ true → is_some links.compensate ≡ true → IsCalledUnder S l d m CompensateAct
compensate_call S l d m links who due given = by (asks_status S d m CompensateAct) refl
  where
    by : (b : Bool) → asks_status S d m CompensateAct ≡ b → IsCalledUnder S l d m CompensateAct
    by true e = called S l d m links CompensateAct Status who refl (both_true (is_compensation_due S d m) _ due e) (status_given S d m links CompensateAct who.joined e)
    by false e = called S l d m links CompensateAct Compensate who refl (both_true (is_compensation_due S d m) _ due (ap not e)) given
