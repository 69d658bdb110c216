-- the calls that are due by the view of a settled set are all its duties, in their order
use Rattle.std.proofs.Common.{Bool, cond, ◌≡◌, ◌≤◌, ◌++◌, ◌∙◌, inl, inr, ℕ, List, [], ◌∷◌, refl, sym, ap, subst, Option, Some, None, filter_map, length, map}
use Rattle.std.specs.List.{cons_option}
use Rattle.std.specs.Option.{option_map_or}
use Rattle.state_ids.specs.declared.outcome.Act.{Act}
use Rattle.state_ids.specs.declared.outcome.Act.TheVariants.{Complete as CompleteAct, Compensate as CompensateAct}
use Rattle.state_facts.specs.declared.fact.Fact.{Fact}
use Rattle.state_facts.specs.Lists.{In}
use Rattle.state_forest.specs.declared.duties.Due.{Due}
use Rattle.state_forest.specs.declared.record.Participant.{Participant as ParticipantRecord}
use Rattle.state_forest.specs.Dues.{AreAll, IsDueAt}
use Rattle.state_forest.specs.Participants.{joined_as, parent_held}
use Rattle.state_ids.specs.declared.status.LraStatus.{LraStatus}
use Rattle.theory_history.specs.Growth.{IsSettled}
use Rattle.theory_history.specs.Readings.{by_view}
use Rattle.theory_history.specs.Views.{StandsFor, View}
use Rattle.theory_history.proofs.SameReadings.{view_alike}
use Rattle.state_replica.specs.ViewDues.{compensations_of, completions_of, forgets_of, hearings_of, parent_in, participant_in}
use Rattle.state_replica.proofs.SettledDues.{all_compensations, all_completions, all_forgets, all_hearings, same_parent, same_participant}
use Rattle.wire_callbacks.specs.declared.answer.Kind.{Kind}
use Rattle.wire_callbacks.specs.declared.answer.Kind.TheVariants.{Complete, Compensate, Status, Forget, After}
use Rattle.wire_callbacks.specs.declared.duty.Duty.{Duty}
use Rattle.wire_callbacks.specs.declared.duty.Purpose.{Purpose}
use Rattle.wire_callbacks.specs.declared.duty.Purpose.TheVariants.{Call, Release, Tell}
use Rattle.wire_callbacks.specs.CallDuties.{IsDuty, act_wanted, comes_first, link_for, shown_for}
use Rattle.wire_callbacks.specs.Errands.{act_from, due_by, duty_from, kind_in}
use Rattle.wire_callbacks.specs.ViewDuties.{act_by, call_at, duties_of, duty_by, shown_in}
use Rattle.wire_callbacks.proofs.Picked.{all_picked}
use Rattle.wire_callbacks.proofs.Ready.{IsReady, kind_is, made, participant_is, ready}

-- the call by the view is the duty by the set
called : (S : List Fact) (view : View) (me : ℕ) (errand : Purpose) (d : Due) → IsSettled S → StandsFor S view → 1 ≤ me → me ≤ length view.front → IsDueAt me S (due_by errand) d → duty_by view errand d ≡ Some (duty_from S errand d)
called S view me errand d settled stands low high due =
    ap (λ (o : Option ParticipantRecord). option_map_or (λ (q : ParticipantRecord). option_map_or (λ act. call_at view d (kind_in errand q) act q) (act_by view errand d) None) o None) found
    ∙ ap (λ (o : Option Act). option_map_or (λ act. call_at view d (kind_in errand p) act p) o None) acting
    ∙ ap (λ (o : Option (List ℕ)). option_map_or (λ link. Some (record { kind = kind_in errand p; act = r.act; id = d.lra; member = d.member; link = link; parent = parent_in view d.lra; shows = shown_in view (kind_in errand p) d.lra })) o None) linked
    ∙ ap (λ (x : Duty). Some x) (made me S errand d due p (kind_in errand p) r.act r.link (parent_in view d.lra) (shown_in view (kind_in errand p) d.lra) (sym (participant_is me S errand d due r)) refl (sym r.wanted) (sym linked) parent (showing (kind_in errand p)))
  where
    r : IsReady S errand d
    r = ready me S errand d due

    p : ParticipantRecord
    p = joined_as S d.lra d.member r.links

    low_home : 1 ≤ d.lra.home
    low_home = subst (λ (h : ℕ). 1 ≤ h) (sym due.own) low

    high_home : d.lra.home ≤ length view.front
    high_home = subst (λ (h : ℕ). h ≤ length view.front) (sym due.own) high

    found : participant_in view d.lra d.member ≡ Some p
    found = same_participant S view d.lra d.member settled stands low_home high_home due.held ∙ participant_is me S errand d due r

    acting : act_by view errand d ≡ Some r.act
    acting = by errand r.wanted
      where
        by : (e : Purpose) → act_from S e d ≡ Some r.act → act_by view e d ≡ Some r.act
        by (Call act) e = e
        by Release e = ap act_wanted ((view_alike S view settled stands).want d.lra due.held) ∙ e
        by Tell e = ap act_wanted ((view_alike S view settled stands).want d.lra due.held) ∙ e

    showing : (k : Kind) → shown_in view k d.lra ≡ shown_for S k d.lra
    showing After =
        let alike = view_alike S view settled stands in
        ap (λ (b : Bool). cond b (Some ((by_view view).shows d.lra)) None) (alike.held d.lra ∙ due.held) ∙ ap (λ (s : LraStatus). Some s) (alike.shows d.lra due.held)
    showing Complete = refl
    showing Compensate = refl
    showing Status = refl
    showing Forget = refl

    linked : link_for (kind_in errand p) p.links ≡ Some r.link
    linked = ap (λ (k : Kind). link_for k r.links) (kind_is S errand d r.links r.joined) ∙ r.given

    parent : parent_in view d.lra ≡ parent_held S d.lra
    parent = same_parent S view d.lra settled stands low_home high_home due.held

each_called : (S : List Fact) (view : View) (me : ℕ) (errand : Purpose) (dues : List Due) → IsSettled S → StandsFor S view → 1 ≤ me → me ≤ length view.front → ((d : Due) → In d dues → IsDueAt me S (due_by errand) d) → filter_map (duty_by view errand) dues ≡ map (duty_from S errand) dues
each_called S view me errand [] settled stands low high due = refl
each_called S view me errand (d ∷ dues) settled stands low high due =
    ap (λ (o : Option Duty). cons_option o (filter_map (duty_by view errand) dues)) (called S view me errand d settled stands low high (due d (inl refl)))
    ∙ ap (λ (ds : List Duty). duty_from S errand d ∷ ds) (each_called S view me errand dues settled stands low high (λ x i. due x (inr i)))

pub all_of_view : (S : List Fact) (view : View) (me : ℕ) → IsSettled S → StandsFor S view → 1 ≤ me → me ≤ length view.front → AreAll (IsDuty me S) (comes_first S) (duties_of view me)
all_of_view S view me settled stands low high =
    let first = all_completions S view me settled stands low high in
    let second = all_compensations S view me settled stands low high in
    let third = all_forgets S view me settled stands low high in
    let one : filter_map (duty_by view (Call CompleteAct)) (completions_of view me) ≡ map (duty_from S (Call CompleteAct)) (completions_of view me) = each_called S view me (Call CompleteAct) (completions_of view me) settled stands low high first.only in
    let two : filter_map (duty_by view (Call CompensateAct)) (compensations_of view me) ≡ map (duty_from S (Call CompensateAct)) (compensations_of view me) = each_called S view me (Call CompensateAct) (compensations_of view me) settled stands low high second.only in
    let fourth = all_hearings S view me settled stands low high in
    let three : filter_map (duty_by view Release) (forgets_of view me) ≡ map (duty_from S Release) (forgets_of view me) = each_called S view me Release (forgets_of view me) settled stands low high third.only in
    let four : filter_map (duty_by view Tell) (hearings_of view me) ≡ map (duty_from S Tell) (hearings_of view me) = each_called S view me Tell (hearings_of view me) settled stands low high fourth.only in
    let same : duties_of view me ≡ map (duty_from S (Call CompleteAct)) (completions_of view me) ++ (map (duty_from S (Call CompensateAct)) (compensations_of view me) ++ (map (duty_from S Release) (forgets_of view me) ++ map (duty_from S Tell) (hearings_of view me))) =
    ap (λ (ds : List Duty). ds ++ (filter_map (duty_by view (Call CompensateAct)) (compensations_of view me) ++ (filter_map (duty_by view Release) (forgets_of view me) ++ filter_map (duty_by view Tell) (hearings_of view me)))) one
    ∙ ap (λ (ds : List Duty). map (duty_from S (Call CompleteAct)) (completions_of view me) ++ (ds ++ (filter_map (duty_by view Release) (forgets_of view me) ++ filter_map (duty_by view Tell) (hearings_of view me)))) two
    ∙ ap (λ (ds : List Duty). map (duty_from S (Call CompleteAct)) (completions_of view me) ++ (map (duty_from S (Call CompensateAct)) (compensations_of view me) ++ (ds ++ filter_map (duty_by view Tell) (hearings_of view me)))) three
    ∙ ap (λ (ds : List Duty). map (duty_from S (Call CompleteAct)) (completions_of view me) ++ (map (duty_from S (Call CompensateAct)) (compensations_of view me) ++ (map (duty_from S Release) (forgets_of view me) ++ ds))) four in
    subst (λ (ds : List Duty). AreAll (IsDuty me S) (comes_first S) ds) (sym same) (all_picked me S (completions_of view me) (compensations_of view me) (forgets_of view me) (hearings_of view me) first second third fourth)
