-- there is a duty for a participant to whom something is due
use Rattle.std.proofs.Common.{◌≡◌, ◌⊎◌, inl, inr, ℕ, List, refl, Bool, true, false, cond}
use Rattle.state_ids.specs.Ids.{Id}
use Rattle.state_ids.specs.declared.outcome.Act.{Act}
use Rattle.state_ids.specs.declared.outcome.Act.TheVariants.{Complete as CompleteAct, Compensate as CompensateAct}
use Rattle.state_facts.specs.declared.fact.Fact.{Fact}
use Rattle.state_facts.specs.Duties.{is_after_duty, is_compensation_due, is_forget_duty}
use Rattle.state_facts.specs.Sets.{is_held}
use Rattle.state_forest.specs.declared.duties.Due.{Due}
use Rattle.state_forest.specs.Dues.{is_complete_duty}
use Rattle.wire_callbacks.specs.declared.answer.Kind.{Kind}
use Rattle.wire_callbacks.specs.declared.answer.Kind.TheVariants.{Complete, Compensate, Status, Forget, After}
use Rattle.wire_callbacks.specs.declared.duty.Duty.{Duty}
use Rattle.wire_callbacks.specs.declared.duty.Purpose.{Purpose}
use Rattle.wire_callbacks.specs.declared.duty.Purpose.TheVariants.{Call, Release, Tell}
use Rattle.wire_callbacks.specs.CallDuties.{IsDuty, asks_status}
use Rattle.wire_callbacks.specs.Errands.{due_by, duty_from, kind_from, kind_of_act}
use Rattle.wire_callbacks.proofs.Picked.{there}

-- the participant is called so, or asked for its status
pub record IsCalled (home : ℕ) (S : List Fact) (l : Id) (kind : Kind) : Type 0 where
  pub call : Duty
  pub duty : IsDuty home S call
  pub lra : call.id ≡ l
  pub so : (call.kind ≡ kind) ⊎ (call.kind ≡ Status)

called : (home : ℕ) (S : List Fact) (errand : Purpose) (l : Id) (m : ℕ) (kind : Kind) → l.home ≡ home → is_held S l ≡ true → due_by errand S l m ≡ true → (kind_from S errand (record { lra = l; member = m }) ≡ kind) ⊎ (kind_from S errand (record { lra = l; member = m }) ≡ Status) → IsCalled home S l kind
called home S errand l m kind own held due so =
    record {
      call = duty_from S errand who;
      duty = (there home S errand who (record { own = own; held = held; owed = due })).duty;
      lra = refl;
      so = so;
    }
  where
    who : Due
    who = record { lra = l; member = m }

either : (b : Bool) (act : Act) → (cond b Status (kind_of_act act) ≡ kind_of_act act) ⊎ (cond b Status (kind_of_act act) ≡ Status)
either true act = inr refl
either false act = inl refl

pub to_complete : (home : ℕ) (S : List Fact) (l : Id) (m : ℕ) → l.home ≡ home → is_held S l ≡ true → is_complete_duty S l m ≡ true → IsCalled home S l Complete
to_complete home S l m own held due = called home S (Call CompleteAct) l m Complete own held due (either (asks_status S l m CompleteAct) CompleteAct)

pub to_compensate : (home : ℕ) (S : List Fact) (l : Id) (m : ℕ) → l.home ≡ home → is_held S l ≡ true → is_compensation_due S l m ≡ true → IsCalled home S l Compensate
to_compensate home S l m own held due = called home S (Call CompensateAct) l m Compensate own held due (either (asks_status S l m CompensateAct) CompensateAct)

pub to_forget : (home : ℕ) (S : List Fact) (l : Id) (m : ℕ) → l.home ≡ home → is_held S l ≡ true → is_forget_duty S l m ≡ true → IsCalled home S l Forget
to_forget home S l m own held due = called home S Release l m Forget own held due (inl refl)

pub to_hear : (home : ℕ) (S : List Fact) (l : Id) (m : ℕ) → l.home ≡ home → is_held S l ≡ true → is_after_duty S l m ≡ true → IsCalled home S l After
to_hear home S l m own held due = called home S Tell l m After own held due (inl refl)
