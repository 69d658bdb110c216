-- what the chains of records tell of roots, and of what is owed to forget, is what the set does
use Rattle.std.proofs.Common.{◌≡◌, inl, inr, ◌≤◌, ◌<◌, ◌+◌, ◌-◌, ◌&&◌, ◌||◌, ◌==◌, ℕ, zero, suc, List, [], ◌∷◌, refl, sym, ap, ◌∙◌, Bool, true, false, cond, arith, Option, Some, None, Ok, filter, find, is_none, is_some, map, slice_get}
use mathlib.Core.Bool.{not}
use Rattle.std.proofs.lemmas.Bool.Decides.{nat_tests}
use Rattle.std.specs.List.{AllByRecursion, list_any}
use Rattle.std.specs.Option.{option_map_or}
use Rattle.state_ids.specs.Ids.{Id, same_id}
use Rattle.state_ids.specs.declared.outcome.Verdict.{Verdict}
use Rattle.state_facts.specs.declared.fact.Fact.{Fact}
use Rattle.state_facts.specs.Duties.{has_forgot, has_told, has_to_forget, is_after_duty, is_at_end, is_forget_duty, is_over, is_root_decided, wants_cancel}
use Rattle.state_facts.specs.Lists.{In}
use Rattle.state_facts.specs.Sets.{chain, depth, is_begun, is_ended, is_held, is_participant, is_root, is_under, want, IsNumbered}
use Rattle.state_facts.proofs.Chains.{chain_any}
use Rattle.state_forest.specs.declared.duties.Due.{Due}
use Rattle.state_forest.specs.declared.duties.DutyKind.{DutyKind}
use Rattle.state_forest.specs.declared.duties.DutyKind.TheVariants.{Complete, Forget, Tell}
use Rattle.state_forest.specs.declared.duties.Owing.{Owing}
use Rattle.state_forest.specs.declared.duties.Owing.TheVariants.{Nothing, Forgetting, Hearing}
use Rattle.state_forest.specs.declared.record.Member.{Member}
use Rattle.state_forest.specs.declared.record.Member.TheVariants.{Nested, Participant, Left}
use Rattle.state_forest.specs.declared.record.Participant.{Participant as ParticipantRecord}
use Rattle.state_forest.specs.declared.record.Place.{Place}
use Rattle.state_forest.specs.declared.record.Record.{Record}
use Rattle.state_forest.specs.Forests.{id_of, is_of}
use Rattle.state_forest.specs.MembersByNumber.{numbered}
use Rattle.state_forest.specs.Owings.{completing_by, forgetting_at, owed_by, owes, owes_at, owing_at, owing_of}
use Rattle.state_forest.specs.Participants.{answered_of, participant_at}
use Rattle.state_forest.specs.Records.{members_of, record_of}
use Rattle.state_forest.specs.Said.{first_member, ids_below, is_at_end_at, is_below, is_ended_at, is_over_at, is_owed, is_owed_at, is_root_at, is_root_decided_at, is_forgot_at, is_to_hear, is_to_hear_at, is_told_at, is_under_at, is_unheard, participant_of, passes_member, records_up, want_at}
use Rattle.state_forest.specs.Shape.{found_at}
use Rattle.state_forest.specs.Standing.{IsNested, IsSeated, IsWhole, Stands}
use Rattle.state_forest.specs.Statuses.{status_in}
use Rattle.state_forest.proofs.ParticipantAnswers.{answer_known, unknown_is}
use Rattle.state_forest.proofs.Bools.{and_left}
use Rattle.state_forest.proofs.Depths.{depth_above}
use Rattle.state_forest.proofs.ShownByMembers.{some_depth}
use Rattle.state_forest.proofs.DueByRecord.{due_none, due_owes, joined_is, nested_is}
use Rattle.state_forest.proofs.MembersAndStamps.{find_in}
use Rattle.state_forest.proofs.Overdue.{at, held_number, number_passes}
use Rattle.state_forest.proofs.RecordsSayTheSet.{ended_said, up_more, up_root, want_said}
use Rattle.state_forest.proofs.RecordsOfASet.{found_parent, found_root, held_if_found, held_parent, nothing_found, stands_at}

-- Tests along a chain

-- the first record of the chain passes
pub any_here : (test : Record → Bool) (levels : ℕ) (at : ℕ → Option Record) (num : ℕ) (r : Record) → 0 < levels → at num ≡ Some r → test r ≡ true → list_any test (records_up levels at num) ≡ true
any_here test levels at num r some found passes = by r.parent refl
  where
    first : (rs : List Record) → list_any test (r ∷ rs) ≡ true
    first rs = ap (λ (b : Bool). b || list_any test rs) passes

    by : (o : Option Place) → r.parent ≡ o → list_any test (records_up levels at num) ≡ true
    by None e = ap (list_any test) (up_root levels at num r some found e) ∙ first []
    by (Some p) e = ap (list_any test) (up_more levels at num r p some found e) ∙ first (records_up (levels - 1) at p.number)

-- the first record is a root's, so it decides
pub any_root : (test : Record → Bool) (levels : ℕ) (at : ℕ → Option Record) (num : ℕ) (r : Record) → 0 < levels → at num ≡ Some r → r.parent ≡ None → list_any test (records_up levels at num) ≡ test r
any_root test levels at num r some found e = ap (list_any test) (up_root levels at num r some found e) ∙ by (test r)
  where
    by : (b : Bool) → (b || false) ≡ b
    by true = refl
    by false = refl

-- the first record does not pass
pub any_above : (test : Record → Bool) (levels next : ℕ) (at : ℕ → Option Record) (num : ℕ) (r : Record) (p : Place) → 0 < levels → levels - 1 ≡ next → at num ≡ Some r → r.parent ≡ Some p → test r ≡ false
    → list_any test (records_up levels at num) ≡ list_any test (records_up next at p.number)
any_above test levels next at num r p some less found e fails =
    ap (list_any test) (up_more levels at num r p some found e)
    ∙ ap (λ (b : Bool). b || list_any test (records_up (levels - 1) at p.number)) fails
    ∙ ap (λ (k : ℕ). list_any test (records_up k at p.number)) less

-- Chains

-- some record of a chain passes a test exactly if some LRA of the chain does, if each record tells
-- of its LRA what the set does
chain_said : (nodes home : ℕ) (S : List Fact) (records : List Record) (test : Record → Bool) (passes : Id → Bool) → IsWhole S → Stands nodes home S records
    → ((num : ℕ) (r : Record) → is_held S (at home num) ≡ true → found_at home records num ≡ Some r → test r ≡ passes (at home num))
    → (levels num : ℕ) → is_held S (at home num) ≡ true → depth S (at home num) ≤ levels
    → list_any test (records_up levels (found_at home records) num) ≡ list_any passes (chain S (at home num))
chain_said nodes home S records test passes whole stands same zero num held low = absurd (omega (arith, low, some_depth S (at home num) whole))
chain_said nodes home S records test passes whole stands same (suc levels) num held low =
    by (λ above kept deep. chain_said nodes home S records test passes whole stands same levels above kept deep) (found_at home records num) refl
  where
    Above : Type 0
    Above = (above : ℕ) → is_held S (at home above) ≡ true → depth S (at home above) ≤ levels → list_any test (records_up levels (found_at home records) above) ≡ list_any passes (chain S (at home above))

    nested : Above → (r : Record) (p : Place) → found_at home records num ≡ Some r → r.parent ≡ Some p → list_any test (records_up (suc levels) (found_at home records) num) ≡ list_any passes (chain S (at home num))
    nested rises r p found parent =
        let l = at home num in
        let up = found_parent nodes S records l r p whole stands held found parent in
        let deeper = depth_above nodes S records l r p whole stands held found parent in
        let less : suc levels - 1 ≡ levels = omega arith in
        let rest = rises p.number (held_parent S l (at home p.number) whole held up) (omega (arith, low, deeper)) in
        ap (list_any test) (up_more (suc levels) (found_at home records) num r p (omega arith) found parent ∙ ap (λ (k : ℕ). r ∷ records_up k (found_at home records) p.number) less)
        ∙ ap (λ (b : Bool). b || list_any test (records_up levels (found_at home records) p.number)) (same num r held found)
        ∙ ap (λ (b : Bool). passes l || b) rest
        ∙ sym (chain_any S whole.nested passes l ∙ ap (λ (o : Option Id). passes l || list_any passes (option_map_or (chain S) o [])) up)

    root : (r : Record) → found_at home records num ≡ Some r → r.parent ≡ None → list_any test (records_up (suc levels) (found_at home records) num) ≡ list_any passes (chain S (at home num))
    root r found none =
        let l = at home num in
        ap (list_any test) (up_root (suc levels) (found_at home records) num r (omega arith) found none)
        ∙ ap (λ (b : Bool). b || false) (same num r held found)
        ∙ sym (chain_any S whole.nested passes l ∙ ap (λ (o : Option Id). passes l || list_any passes (option_map_or (chain S) o [])) (found_root nodes S records l r stands held found none))

    by_parent : Above → (r : Record) (o : Option Place) → found_at home records num ≡ Some r → r.parent ≡ o → list_any test (records_up (suc levels) (found_at home records) num) ≡ list_any passes (chain S (at home num))
    by_parent rises r None found e = root r found e
    by_parent rises r (Some p) found e = nested rises r p found e

    by : Above → (o : Option Record) → found_at home records num ≡ o → list_any test (records_up (suc levels) (found_at home records) num) ≡ list_any passes (chain S (at home num))
    by rises None e = absurd (nothing_found nodes S records (at home num) stands held e)
    by rises (Some r) e = by_parent rises r r.parent e refl

-- a record that is found has the number it was looked up by
pub found_number : (home num : ℕ) (records : List Record) (r : Record) → found_at home records num ≡ Some r → r.num ≡ num
found_number home num records r found = let is = (find_in (is_of (at home num)) records r found).1 in grind (arith, nat_tests, is)

pub under_said : (nodes home : ℕ) (S : List Fact) (records : List Record) (above num : ℕ) → IsWhole S → IsNested S → Stands nodes home S records → is_held S (at home num) ≡ true → is_under_at (found_at home records) above num ≡ is_under S (at home above) (at home num)
under_said nodes home S records above num whole nest stands held =
    chain_said nodes home S records (λ (r : Record). r.num == above) (same_id (at home above)) whole stands same 8 num held (nest.shallow (at home num) (and_left (is_begun S (at home num)) _ held))
  where
    same : (k : ℕ) (r : Record) → is_held S (at home k) ≡ true → found_at home records k ≡ Some r → (r.num == above) ≡ same_id (at home above) (at home k)
    same k r kept found = let number = found_number home k records r found in grind (arith, nat_tests, number)

-- a record without a parent is a root's
pub no_parent_said : (nodes : ℕ) (S : List Fact) (records : List Record) (l : Id) (r : Record) → IsWhole S → Stands nodes l.home S records → find (is_of l) records ≡ Some r → is_none r.parent ≡ is_root S l
no_parent_said nodes S records l r whole stands found = by r.parent refl
  where
    held : is_held S l ≡ true
    held = held_if_found nodes S records l r stands found

    by : (o : Option Place) → r.parent ≡ o → is_none r.parent ≡ is_root S l
    by None e = ap is_none e ∙ sym (ap is_none (found_root nodes S records l r stands held found e))
    by (Some p) e = ap is_none e ∙ sym (ap is_none (found_parent nodes S records l r p whole stands held found e))

pub root_said : (nodes : ℕ) (S : List Fact) (records : List Record) (l : Id) → IsWhole S → Stands nodes l.home S records → is_held S l ≡ true → is_root_at (found_at l.home records) l.num ≡ is_root S l
root_said nodes S records l whole stands held =
    let found = stands_at nodes l.home S records l stands refl held in
    ap (λ (o : Option Record). option_map_or (λ (r : Record). is_none r.parent) o false) found ∙ no_parent_said nodes S records l (record_of nodes S l) whole stands found

pub over_said : (nodes : ℕ) (S : List Fact) (records : List Record) (l : Id) → IsWhole S → IsNested S → Stands nodes l.home S records → is_held S l ≡ true → is_over_at (found_at l.home records) l.num ≡ is_over S l
over_said nodes S records l whole nest stands held =
    chain_said nodes l.home S records (λ (r : Record). is_none r.parent && is_ended_at (found_at l.home records) r.num) (λ a. is_root S a && is_ended S a) whole stands same 8 l.num held (nest.shallow l (and_left (is_begun S l) _ held))
  where
    same : (k : ℕ) (r : Record) → is_held S (at l.home k) ≡ true → found_at l.home records k ≡ Some r → (is_none r.parent && is_ended_at (found_at l.home records) r.num) ≡ (is_root S (at l.home k) && is_ended S (at l.home k))
    same k r kept found =
        ap (λ (b : Bool). b && is_ended_at (found_at l.home records) r.num) (no_parent_said nodes S records (at l.home k) r whole stands found)
        ∙ ap (λ (n : ℕ). is_root S (at l.home k) && is_ended_at (found_at l.home records) n) (found_number l.home k records r found)
        ∙ ap (λ (b : Bool). is_root S (at l.home k) && b) (ended_said nodes S records (at l.home k) whole nest stands kept)

pub decided_said : (nodes : ℕ) (S : List Fact) (records : List Record) (l : Id) → IsWhole S → IsNested S → Stands nodes l.home S records → is_held S l ≡ true → is_root_decided_at (found_at l.home records) l.num ≡ is_root_decided S l
decided_said nodes S records l whole nest stands held =
    chain_said nodes l.home S records (λ (r : Record). is_none r.parent && is_some (want_at (found_at l.home records) r.num)) (λ a. is_root S a && is_some (want S a)) whole stands same 8 l.num held (nest.shallow l (and_left (is_begun S l) _ held))
  where
    same : (k : ℕ) (r : Record) → is_held S (at l.home k) ≡ true → found_at l.home records k ≡ Some r → (is_none r.parent && is_some (want_at (found_at l.home records) r.num)) ≡ (is_root S (at l.home k) && is_some (want S (at l.home k)))
    same k r kept found =
        ap (λ (b : Bool). b && is_some (want_at (found_at l.home records) r.num)) (no_parent_said nodes S records (at l.home k) r whole stands found)
        ∙ ap (λ (n : ℕ). is_root S (at l.home k) && is_some (want_at (found_at l.home records) n)) (found_number l.home k records r found)
        ∙ ap (λ (w : Option Verdict). is_root S (at l.home k) && is_some w) (want_said nodes S records (at l.home k) whole nest stands kept)

pub end_said : (nodes : ℕ) (S : List Fact) (records : List Record) (l : Id) → IsWhole S → IsNested S → Stands nodes l.home S records → is_held S l ≡ true → is_at_end_at (found_at l.home records) l.num ≡ is_at_end S l
end_said nodes S records l whole nest stands held =
    let at = found_at l.home records in
    ap (λ (b : Bool). b && (wants_cancel (want_at at l.num) || is_root_decided_at at l.num)) (ended_said nodes S records l whole nest stands held)
    ∙ ap (λ (w : Option Verdict). is_ended S l && (wants_cancel w || is_root_decided_at at l.num)) (want_said nodes S records l whole nest stands held)
    ∙ ap (λ (b : Bool). is_ended S l && (wants_cancel (want S l) || b)) (decided_said nodes S records l whole nest stands held)

-- What is owed

pub owing_said : (errand : DutyKind) (nodes home : ℕ) (S : List Fact) (records : List Record) (r : Record) → IsWhole S → IsNested S → Stands nodes home S records → found_at home records r.num ≡ Some r → owing_at errand (found_at home records) r ≡ owing_of errand S (at home r.num)
owing_said Complete nodes home S records r whole nest stands found =
    ap completing_by (want_said nodes S records (at home r.num) whole nest stands (held_if_found nodes S records (at home r.num) r stands found))
owing_said Forget nodes home S records r whole nest stands found =
    let l = at home r.num in
    let held = held_if_found nodes S records l r stands found in
    ap (λ (b : Bool). cond b (Forgetting (want_at (found_at home records) r.num) (is_some r.parent)) Nothing) (over_said nodes S records l whole nest stands held)
    ∙ ap (λ (w : Option Verdict). cond (is_over S l) (Forgetting w (is_some r.parent)) Nothing) (want_said nodes S records l whole nest stands held)
    ∙ ap (λ (b : Bool). cond (is_over S l) (Forgetting (want S l) b) Nothing) (nested_is nodes S records l r whole stands found)
owing_said Tell nodes home S records r whole nest stands found =
    let l = at home r.num in
    ap (λ (b : Bool). cond b Hearing Nothing) (end_said nodes S records l whole nest stands (held_if_found nodes S records l r stands found))

owed_either : (b nested : Bool) (w : Option Verdict) (p : ParticipantRecord) → (b && (is_some p.links.forget && (not p.forgotten && has_to_forget nested (status_in w p)))) ≡ owes (cond b (Forgetting w nested) Nothing) p
owed_either true nested w p = refl
owed_either false nested w p = refl

pub owed_owes : (at : ℕ → Option Record) (r : Record) (p : ParticipantRecord) → is_owed at r p ≡ owes (owing_at Forget at r) p
owed_owes at r p = owed_either (is_over_at at r.num) (is_some r.parent) (want_at at r.num) p

either_hear : (b : Bool) (p : ParticipantRecord) → (b && is_unheard p) ≡ owes (cond b Hearing Nothing) p
either_hear true p = refl
either_hear false p = refl

pub hears_owes : (at : ℕ → Option Record) (r : Record) (p : ParticipantRecord) → is_to_hear at r p ≡ owes (owing_at Tell at r) p
hears_owes at r p = either_hear (is_at_end_at at r.num) p

-- what passes the test is what is owed
abbrev pub Agrees : (ParticipantRecord → Bool) → Owing → Type 0
Agrees passes owing = (p : ParticipantRecord) → passes p ≡ owes owing p

member_owes : (passes : ParticipantRecord → Bool) (owing : Owing) → Agrees passes owing → (m : Member) → passes_member passes m ≡ owes_at owing m
member_owes passes owing agrees (Participant p) = agrees p
member_owes passes owing agrees (Nested num) = refl
member_owes passes owing agrees Left = refl

pub first_member_is : (passes : ParticipantRecord → Bool) (owing : Owing) → Agrees passes owing → (l : Id) (k : ℕ) (ms : List Member) → first_member passes l k ms ≡ slice_get (owed_by owing l k ms) 0
first_member_is passes owing agrees l k [] = refl
first_member_is passes owing agrees l k (m ∷ ms) = ap (λ (b : Bool). cond b (Some (record { lra = l; member = k })) (first_member passes l (k + 1) ms)) (member_owes passes owing agrees m) ∙ by (owes_at owing m) (first_member_is passes owing agrees l (k + 1) ms)
  where
    by : (b : Bool) → first_member passes l (k + 1) ms ≡ slice_get (owed_by owing l (k + 1) ms) 0
        → cond b (Some (record { lra = l; member = k })) (first_member passes l (k + 1) ms) ≡ slice_get (cond b (record { lra = l; member = k } ∷ owed_by owing l (k + 1) ms) (owed_by owing l (k + 1) ms)) 0
    by true rest = refl
    by false rest = rest

-- the answer for an LRA and a participant that are there
pub tested_is : (test : Record → ParticipantRecord → Bool) (at : ℕ → Option Record) (num m : ℕ) (r : Record) (p : ParticipantRecord) (b : Bool) → at num ≡ Some r → participant_of at num m ≡ Some p → b ≡ test r p
    → Ok b ≡ answered_of (is_some (at num)) (is_some (participant_of at num m)) (option_map_or (λ (q : Record). option_map_or (test q) (participant_of at num m) false) (at num) false)
tested_is test at num m r p b found joined is =
    answer_known (is_some (at num)) (is_some (participant_of at num m)) b _ (ap is_some found) (ap is_some joined)
    (is
    ∙ sym (ap (λ (o : Option ParticipantRecord). option_map_or (test r) o false) joined)
    ∙ sym (ap (λ (o : Option Record). option_map_or (λ (q : Record). option_map_or (test q) (participant_of at num m) false) o false) found))

pub to_forget_is : (at : ℕ → Option Record) (num m : ℕ) (r : Record) (p : ParticipantRecord) (b : Bool) → at num ≡ Some r → participant_of at num m ≡ Some p → b ≡ is_owed at r p
    → Ok b ≡ answered_of (is_some (at num)) (is_some (participant_of at num m)) (is_owed_at at num m)
to_forget_is at num m r p b found joined is = tested_is (is_owed at) at num m r p b found joined is

pub to_hear_is : (at : ℕ → Option Record) (num m : ℕ) (r : Record) (p : ParticipantRecord) (b : Bool) → at num ≡ Some r → participant_of at num m ≡ Some p → b ≡ is_to_hear at r p
    → Ok b ≡ answered_of (is_some (at num)) (is_some (participant_of at num m)) (is_to_hear_at at num m)
to_hear_is at num m r p b found joined is = tested_is (is_to_hear at) at num m r p b found joined is

pub both_true : (a b : Bool) → b ≡ true → a ≡ (a && b)
both_true true b e = sym e
both_true false b e = refl

pub both_false : (a b : Bool) → b ≡ false → false ≡ (a && b)
both_false true b e = sym e
both_false false b e = refl

nothing_owed : (l : Id) (i : ℕ) (ms : List Member) → owed_by Nothing l i ms ≡ []
nothing_owed l i [] = refl
nothing_owed l i (Nested num ∷ ms) = nothing_owed l (i + 1) ms
nothing_owed l i (Participant p ∷ ms) = nothing_owed l (i + 1) ms
nothing_owed l i (Left ∷ ms) = nothing_owed l (i + 1) ms

no_first : (xs : List Due) → slice_get xs 0 ≡ None → xs ≡ []
no_first [] e = refl
no_first (x ∷ xs) e = absurd cc

-- if no participant has anything to forget, nothing is owed, whether the root is ended or not
pub none_forgetting : (at : ℕ → Option Record) (r : Record) (lra : Id) (ms : List Member) → slice_get (owed_by (forgetting_at at r) lra 1 ms) 0 ≡ None → owed_by Nothing lra 1 ms ≡ owed_by (owing_at Forget at r) lra 1 ms
none_forgetting at r lra ms none = nothing_owed lra 1 ms ∙ sym (by (is_over_at at r.num))
  where
    by : (b : Bool) → owed_by (cond b (forgetting_at at r) Nothing) lra 1 ms ≡ []
    by true = no_first (owed_by (forgetting_at at r) lra 1 ms) none
    by false = nothing_owed lra 1 ms

-- if no participant has anything to hear, nothing is owed, whether the LRA has ended or not
pub none_hearing : (at : ℕ → Option Record) (r : Record) (lra : Id) (ms : List Member) → slice_get (owed_by Hearing lra 1 ms) 0 ≡ None → owed_by Nothing lra 1 ms ≡ owed_by (owing_at Tell at r) lra 1 ms
none_hearing at r lra ms none = nothing_owed lra 1 ms ∙ sym (by (is_at_end_at at r.num))
  where
    by : (b : Bool) → owed_by (cond b Hearing Nothing) lra 1 ms ≡ []
    by true = no_first (owed_by Hearing lra 1 ms) none
    by false = nothing_owed lra 1 ms

pub owed_said : (nodes : ℕ) (S : List Fact) (records : List Record) (l : Id) (m : ℕ) → IsWhole S → IsNested S → IsSeated S → Stands nodes l.home S records → is_held S l ≡ true → is_owed_at (found_at l.home records) l.num m ≡ is_forget_duty S l m
owed_said nodes S records l m whole nest seated stands held =
    let at = found_at l.home records in
    let found = stands_at nodes l.home S records l stands refl held in
    ap (λ (o : Option Record). option_map_or (λ (r : Record). option_map_or (is_owed at r) (participant_at (numbered (option_map_or (λ (q : Record). q.members) o []) m)) false) o false) found
    ∙ by (participant_at (numbered (members_of S l) m)) refl
  where
    by : (o : Option ParticipantRecord) → participant_at (numbered (members_of S l) m) ≡ o → option_map_or (is_owed (found_at l.home records) (record_of nodes S l)) o false ≡ is_forget_duty S l m
    by None e = sym (due_none Forget S l m seated e)
    by (Some p) e =
        let found = stands_at nodes l.home S records l stands refl held in
        owed_owes (found_at l.home records) (record_of nodes S l) p
        ∙ ap (λ (owing : Owing). owes owing p) (owing_said Forget nodes l.home S records (record_of nodes S l) whole nest stands found)
        ∙ sym (due_owes Forget S l m p seated e)

pub hear_said : (nodes : ℕ) (S : List Fact) (records : List Record) (l : Id) (m : ℕ) → IsWhole S → IsNested S → IsSeated S → Stands nodes l.home S records → is_held S l ≡ true → is_to_hear_at (found_at l.home records) l.num m ≡ is_after_duty S l m
hear_said nodes S records l m whole nest seated stands held =
    let at = found_at l.home records in
    let found = stands_at nodes l.home S records l stands refl held in
    ap (λ (o : Option Record). option_map_or (λ (r : Record). option_map_or (is_to_hear at r) (participant_at (numbered (option_map_or (λ (q : Record). q.members) o []) m)) false) o false) found
    ∙ by (participant_at (numbered (members_of S l) m)) refl
  where
    by : (o : Option ParticipantRecord) → participant_at (numbered (members_of S l) m) ≡ o → option_map_or (is_to_hear (found_at l.home records) (record_of nodes S l)) o false ≡ is_after_duty S l m
    by None e = sym (due_none Tell S l m seated e)
    by (Some p) e =
        let found = stands_at nodes l.home S records l stands refl held in
        hears_owes (found_at l.home records) (record_of nodes S l) p
        ∙ ap (λ (owing : Owing). owes owing p) (owing_said Tell nodes l.home S records (record_of nodes S l) whole nest stands found)
        ∙ sym (due_owes Tell S l m p seated e)

pub told_said : (nodes : ℕ) (S : List Fact) (records : List Record) (l : Id) (m : ℕ) → IsSeated S → Stands nodes l.home S records → is_held S l ≡ true → is_participant S l m ≡ true → is_forgot_at (found_at l.home records) l.num m ≡ has_forgot S l m
told_said nodes S records l m seated stands held some =
    let found = stands_at nodes l.home S records l stands refl held in
    ap (λ (o : Option Record). option_map_or (λ (p : ParticipantRecord). p.forgotten) (participant_at (numbered (option_map_or (λ (q : Record). q.members) o []) m)) false) found
    ∙ by (participant_at (numbered (members_of S l) m)) refl
  where
    by : (o : Option ParticipantRecord) → participant_at (numbered (members_of S l) m) ≡ o → option_map_or (λ (p : ParticipantRecord). p.forgotten) o false ≡ has_forgot S l m
    by None e = absurd (let wrong : true ≡ false = sym some ∙ unknown_is S l m seated e in cc)
    by (Some p) e = sym (ap (λ (q : ParticipantRecord). q.forgotten) (joined_is S l m p seated e).is)

pub end_told_said : (nodes : ℕ) (S : List Fact) (records : List Record) (l : Id) (m : ℕ) → IsSeated S → Stands nodes l.home S records → is_held S l ≡ true → is_participant S l m ≡ true → is_told_at (found_at l.home records) l.num m ≡ has_told S l m
end_told_said nodes S records l m seated stands held some =
    let found = stands_at nodes l.home S records l stands refl held in
    ap (λ (o : Option Record). option_map_or (λ (p : ParticipantRecord). p.told) (participant_at (numbered (option_map_or (λ (q : Record). q.members) o []) m)) false) found
    ∙ by (participant_at (numbered (members_of S l) m)) refl
  where
    by : (o : Option ParticipantRecord) → participant_at (numbered (members_of S l) m) ≡ o → option_map_or (λ (p : ParticipantRecord). p.told) o false ≡ has_told S l m
    by None e = absurd (let wrong : true ≡ false = sym some ∙ unknown_is S l m seated e in cc)
    by (Some p) e = sym (ap (λ (q : ParticipantRecord). q.told) (joined_is S l m p seated e).is)

-- What is below

-- by the records an LRA is below another exactly if the set has it under that one
pub below_said : (nodes home : ℕ) (S : List Fact) (records : List Record) (num : ℕ) (r : Record) → IsWhole S → IsNested S → AllByRecursion IsNumbered S → Stands nodes home S records → found_at home records r.num ≡ Some r
    → is_below (found_at home records) num r ≡ is_under S (at home num) (at home r.num)
below_said nodes home S records num r whole nest numbers stands found =
    let held = held_if_found nodes S records (at home r.num) r stands found in
    ap (λ (b : Bool). b && is_under_at (found_at home records) num r.num) (number_passes r.num (held_number S (at home r.num) numbers held))
    ∙ under_said nodes home S records num r.num whole nest stands held

-- the id of a record that passes a test is among the ids of those that do
id_kept : (p : Record → Bool) (rs : List Record) (r : Record) → In r rs → p r ≡ true → In (id_of r) (map id_of (filter p rs))
id_kept p [] r i e = absurd i
id_kept p (q ∷ rs) r i e = by (p q) refl i (id_kept p rs r)
  where
    by : (b : Bool) → p q ≡ b → In r (q ∷ rs) → (In r rs → p r ≡ true → In (id_of r) (map id_of (filter p rs))) → In (id_of r) (map id_of (cond b (q ∷ filter p rs) (filter p rs)))
    by true t (inl same) rest = inl (ap id_of same)
    by true t (inr inside) rest = inr (rest inside e)
    by false t (inl same) rest = absurd (let wrong : true ≡ false = sym e ∙ ap p same ∙ t in cc)
    by false t (inr inside) rest = rest inside e

kept_id : (p : Record → Bool) (rs : List Record) (l : Id) → In l (map id_of (filter p rs)) → (r : Record) × In r rs × (p r ≡ true) × (l ≡ id_of r)
kept_id p [] l i = absurd i
kept_id p (q ∷ rs) l i = by (p q) refl i (kept_id p rs l)
  where
    by : (b : Bool) → p q ≡ b → In l (map id_of (cond b (q ∷ filter p rs) (filter p rs))) → (In l (map id_of (filter p rs)) → (r : Record) × In r rs × (p r ≡ true) × (l ≡ id_of r)) → (r : Record) × In r (q ∷ rs) × (p r ≡ true) × (l ≡ id_of r)
    by true t (inl same) rest = (q, inl refl, t, same)
    by true t (inr inside) rest = let k = rest inside in (k.0, inr k.1, k.2, k.3)
    by false t inside rest = let k = rest inside in (k.0, inr k.1, k.2, k.3)

-- an LRA is among them exactly if it has such a record
pub id_below : (at : ℕ → Option Record) (num : ℕ) (records : List Record) (r : Record) → In r records → is_below at num r ≡ true → In (id_of r) (ids_below at num records)
id_below at num records r i below = id_kept (is_below at num) records r i below

pub below_id : (at : ℕ → Option Record) (num : ℕ) (records : List Record) (l : Id) → In l (ids_below at num records) → (r : Record) × In r records × (is_below at num r ≡ true) × (l ≡ id_of r)
below_id at num records l i = kept_id (is_below at num) records l i
