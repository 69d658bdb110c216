-- what is due by the view of a settled set is exactly what the set has due, and participants and
-- parents are those of the set
use Rattle.std.proofs.Common.{◌≡◌, ◌≤◌, ◌∙◌, [], ℕ, List, refl, sym, ap, Bool, true, cond, Option, Some, None, length}
use Rattle.std.specs.Option.{option_map_or}
use Rattle.state_ids.specs.Ids.{Id, is_fact_number}
use Rattle.state_facts.specs.declared.fact.Fact.{Fact}
use Rattle.state_facts.specs.Duties.{is_after_duty, is_compensation_due, is_forget_duty}
use Rattle.state_facts.specs.Sets.{is_held, parent_of, IsNumbered}
use Rattle.state_forest.specs.declared.record.Place.{Place}
use Rattle.state_forest.specs.declared.record.Record.{Record}
use Rattle.state_forest.specs.Dues.{AreAll, IsDueAt, is_before, is_complete_duty, is_topmost_before}
use Rattle.state_forest.specs.MembersByNumber.{numbered}
use Rattle.state_forest.specs.Participants.{parent_held, participant_at, participant_of}
use Rattle.state_forest.specs.Records.{record_of}
use Rattle.state_forest.specs.Shape.{found_at}
use Rattle.state_forest.specs.Standing.{Stands}
use Rattle.state_forest.proofs.ParticipantAnswers.{parent_known, participant_held, participant_law}
use Rattle.state_forest.proofs.Bools.{all_from}
use Rattle.state_forest.proofs.CompensationsOfAHome.{compensations_settled}
use Rattle.state_forest.proofs.Overdue.{at, held_number, number_passes}
use Rattle.state_forest.proofs.DutiesOfAHome.{completions_settled, forgets_settled, hearings_settled}
use Rattle.state_forest.proofs.RecordsOfASet.{found_parent, found_root, held_parent, stands_at}
use Rattle.theory_history.specs.Growth.{IsSettled}
use Rattle.theory_history.specs.Views.{StandsFor, View, records_at}
use Rattle.theory_history.proofs.Covered.{nested_settled}
use Rattle.state_replica.specs.ViewDues.{compensations_of, completions_of, forgets_of, hearings_of, parent_in, participant_in}

pub all_completions : (S : List Fact) (view : View) (me : ℕ) → IsSettled S → StandsFor S view → 1 ≤ me → me ≤ length view.front → AreAll (IsDueAt me S is_complete_duty) is_before (completions_of view me)
all_completions S view me settled stands low high =
    let own = stands.records me low high in
    completions_settled (length view.front) me S (records_at view.records me) settled.whole settled.seated (nested_settled S settled) (all_from IsNumbered S settled.numbered) own.order own.stands

pub all_compensations : (S : List Fact) (view : View) (me : ℕ) → IsSettled S → StandsFor S view → 1 ≤ me → me ≤ length view.front → AreAll (IsDueAt me S is_compensation_due) (is_topmost_before S) (compensations_of view me)
all_compensations S view me settled stands low high =
    let own = stands.records me low high in
    compensations_settled (length view.front) me S (records_at view.records me) settled.whole settled.seated (nested_settled S settled) (all_from IsNumbered S settled.numbered) own.order own.stands

pub all_forgets : (S : List Fact) (view : View) (me : ℕ) → IsSettled S → StandsFor S view → 1 ≤ me → me ≤ length view.front → AreAll (IsDueAt me S is_forget_duty) is_before (forgets_of view me)
all_forgets S view me settled stands low high =
    let own = stands.records me low high in
    forgets_settled (length view.front) me S (records_at view.records me) settled.whole settled.seated (nested_settled S settled) (all_from IsNumbered S settled.numbered) own.order own.stands

pub all_hearings : (S : List Fact) (view : View) (me : ℕ) → IsSettled S → StandsFor S view → 1 ≤ me → me ≤ length view.front → AreAll (IsDueAt me S is_after_duty) is_before (hearings_of view me)
all_hearings S view me settled stands low high =
    let own = stands.records me low high in
    hearings_settled (length view.front) me S (records_at view.records me) settled.whole settled.seated (nested_settled S settled) (all_from IsNumbered S settled.numbered) own.order own.stands

-- the same for an LRA that the set holds
pub same_participant : (S : List Fact) (view : View) (l : Id) (m : ℕ) → IsSettled S → StandsFor S view → 1 ≤ l.home → l.home ≤ length view.front → is_held S l ≡ true → participant_in view l m ≡ participant_of S l m
same_participant S view l m settled stands low high held =
    let found = stands_at (length view.front) l.home S (records_at view.records l.home) l (stands.records l.home low high).stands refl held in
    ap (λ (o : Option Record). participant_at (numbered (option_map_or (λ (r : Record). r.members) o []) m)) found
    ∙ participant_law S l m settled.seated ∙ sym (participant_held S l m held)

pub same_parent : (S : List Fact) (view : View) (l : Id) → IsSettled S → StandsFor S view → 1 ≤ l.home → l.home ≤ length view.front → is_held S l ≡ true → parent_in view l ≡ parent_held S l
same_parent S view l settled stands low high held =
    ap (λ (o : Option Record). option_map_or (λ (r : Record). option_map_or (λ (p : Place). cond (is_fact_number p.number) (Some (at l.home p.number)) None) r.parent None) o None) found
    ∙ parent_known S l _ held (by (record_of (length view.front) S l).parent refl)
  where
    records : List Record
    records = records_at view.records l.home

    own : Stands (length view.front) l.home S records
    own = (stands.records l.home low high).stands

    found : found_at l.home records l.num ≡ Some (record_of (length view.front) S l)
    found = stands_at (length view.front) l.home S records l own refl held

    by : (o : Option Place) → (record_of (length view.front) S l).parent ≡ o → option_map_or (λ (p : Place). cond (is_fact_number p.number) (Some (at l.home p.number)) None) o None ≡ parent_of S l
    by None e = sym (found_root (length view.front) S records l (record_of (length view.front) S l) own held found e)
    by (Some p) e =
        let up = found_parent (length view.front) S records l (record_of (length view.front) S l) p settled.whole own held found e in
        let number = held_number S (at l.home p.number) (all_from IsNumbered S settled.numbered) (held_parent S l (at l.home p.number) settled.whole held up) in
        ap (λ (b : Bool). cond b (Some (at l.home p.number)) None) (number_passes p.number number) ∙ sym up
