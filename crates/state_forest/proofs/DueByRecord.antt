-- what is due of a participant is what it owes by its record
use Rattle.std.proofs.Common.{◌≡◌, ◌&&◌, ◌<◌, ◌+◌, ◌++◌, ℕ, List, ◌∷◌, [], refl, sym, ap, subst, ◌∙◌, Bool, true, false, cond, arith, Option, Some, None, find, get_or, is_none, is_some, length, nat_lt, take}
use mathlib.Core.Bool.{not}
use Rattle.std.specs.List.{AllByRecursion}
use Rattle.std.specs.Option.{option_map_or}
use Rattle.std.proofs.lemmas.Bool.Decides.{nat_tests}
use Rattle.std.proofs.lemmas.List.{take_more}
use Rattle.state_ids.specs.Ids.{Id, IsFactNumber}
use Rattle.state_ids.specs.declared.outcome.Act.TheVariants.{Complete as CompleteAct}
use Rattle.state_ids.specs.declared.outcome.Verdict.{Verdict}
use Rattle.state_ids.specs.declared.outcome.Verdict.TheVariants.{Close, Cancel}
use Rattle.state_facts.specs.declared.fact.Fact.{Fact}
use Rattle.state_facts.specs.Links.{Links}
use Rattle.state_facts.specs.Duties.{is_at_end, is_over, is_pending, is_untold, is_untold_by, owes_after, owes_forget}
use Rattle.state_facts.specs.Lists.{In}
use Rattle.state_facts.specs.Sets.{demands, has_left, is_held, is_root, links_of, want, IsNumbered}
use Rattle.state_forest.specs.declared.duties.Due.{Due}
use Rattle.state_forest.specs.declared.duties.DutyKind.{DutyKind}
use Rattle.state_forest.specs.declared.duties.DutyKind.TheVariants.{Complete, Forget, Tell}
use Rattle.state_forest.specs.declared.duties.Owing.TheVariants.{Nothing, Forgetting, Hearing}
use Rattle.state_forest.specs.declared.record.Participant.{Participant as ParticipantRecord}
use Rattle.state_forest.specs.declared.record.Place.{Place}
use Rattle.state_forest.specs.declared.record.Record.{Record}
use Rattle.state_forest.specs.Dues.{AreAll, IsDueAt, is_before}
use Rattle.state_forest.specs.Forests.{AreOf, is_of}
use Rattle.state_forest.specs.MembersByNumber.{numbered}
use Rattle.state_forest.specs.Owings.{completing_by, duty_of, owed_by, owes, owing_of}
use Rattle.state_forest.specs.Participants.{joined_as, participant_at}
use Rattle.state_forest.specs.Records.{members_of, record_of}
use Rattle.state_forest.specs.Said.{is_unheard}
use Rattle.state_forest.specs.Standing.{IsSeated, IsWhole, Stands}
use Rattle.state_forest.proofs.ParticipantAnswers.{participant_law, unknown_is}
use Rattle.state_forest.proofs.CompensationsByRecord.{lesser_before}
use Rattle.state_forest.proofs.ListsByRecord.{Owned, of_all, one_record_more}
use Rattle.state_forest.proofs.MembersAndStamps.{find_in}
use Rattle.state_forest.proofs.Overdue.{at, held_number}
use Rattle.state_forest.proofs.OwedMembers.{owed_all}
use Rattle.state_forest.proofs.RecordsOfASet.{found_is, found_parent, found_root, held_if_found, stands_at}

-- what is known of a participant that is found: how it joined
pub record IsJoined (S : List Fact) (l : Id) (m : ℕ) (p : ParticipantRecord) : Type 0 where
  pub given : Links
  pub links : links_of S l m ≡ Some given
  pub stayed : has_left S l m ≡ false
  pub is : joined_as S l m given ≡ p

pub joined_is : (S : List Fact) (l : Id) (m : ℕ) (p : ParticipantRecord) → IsSeated S → participant_at (numbered (members_of S l) m) ≡ Some p → IsJoined S l m p
joined_is S l m p seated e = by (has_left S l m) (links_of S l m) refl refl (sym (participant_law S l m seated) ∙ e)
  where
    by : (b : Bool) (o : Option Links) → has_left S l m ≡ b → links_of S l m ≡ o → cond b None (option_map_or (λ links. Some (joined_as S l m links)) o None) ≡ Some p → IsJoined S l m p
    by true o s t e = absurd cc
    by false None s t e = absurd cc
    by false (Some links) s t e = record { given = links; links = t; stayed = s; is = cc }

pub complete_owes : (w : Option Verdict) (p : ParticipantRecord) → (demands w p.links CompleteAct && is_pending p.completed) ≡ owes (completing_by w) p
complete_owes None p = refl
complete_owes (Some Close) p = refl
complete_owes (Some Cancel) p = refl

forget_owes : (S : List Fact) (l : Id) (m : ℕ) (links : Links) (b : Bool) → is_over S l ≡ b → owes_forget S l m links ≡ owes (cond b (Forgetting (want S l) (not (is_root S l))) Nothing) (joined_as S l m links)
forget_owes S l m links true e = rw e refl
forget_owes S l m links false e = rw e refl

after_owes : (S : List Fact) (l : Id) (m : ℕ) (links : Links) (b : Bool) → is_at_end S l ≡ b → owes_after S l m links ≡ owes (cond b Hearing Nothing) (joined_as S l m links)
after_owes S l m links true e = rw e refl
after_owes S l m links false e = rw e refl

pub due_owes : (errand : DutyKind) (S : List Fact) (l : Id) (m : ℕ) (p : ParticipantRecord) → IsSeated S → participant_at (numbered (members_of S l) m) ≡ Some p → duty_of errand S l m ≡ owes (owing_of errand S l) p
due_owes Complete S l m p seated found =
    let j = joined_is S l m p seated found in
    rw (j.links, j.stayed) (complete_owes (want S l) (joined_as S l m j.given)) ∙ ap (owes (completing_by (want S l))) j.is
due_owes Forget S l m p seated found =
    let j = joined_is S l m p seated found in
    rw (j.links, j.stayed) (forget_owes S l m j.given (is_over S l) refl) ∙ ap (owes (owing_of Forget S l)) j.is
due_owes Tell S l m p seated found =
    let j = joined_is S l m p seated found in
    rw (j.links, j.stayed) (after_owes S l m j.given (is_at_end S l) refl) ∙ ap (owes (owing_of Tell S l)) j.is

-- by its record a participant is still to be told exactly if the set says so
pub untold_unheard : (S : List Fact) (l : Id) (m : ℕ) (p : ParticipantRecord) → IsSeated S → participant_at (numbered (members_of S l) m) ≡ Some p → is_untold S l m ≡ is_unheard p
untold_unheard S l m p seated found =
    let j = joined_is S l m p seated found in
    let same : is_untold_by S l m j.given ≡ is_unheard (joined_as S l m j.given) = refl in
    rw (j.links, j.stayed) same ∙ ap is_unheard j.is

pub untold_none : (S : List Fact) (l : Id) (m : ℕ) → IsSeated S → participant_at (numbered (members_of S l) m) ≡ None → is_untold S l m ≡ false
untold_none S l m seated none = rw (unknown_is S l m seated none) refl

pub due_none : (errand : DutyKind) (S : List Fact) (l : Id) (m : ℕ) → IsSeated S → participant_at (numbered (members_of S l) m) ≡ None → duty_of errand S l m ≡ false
due_none Complete S l m seated none = rw (unknown_is S l m seated none) refl
due_none Forget S l m seated none = rw (unknown_is S l m seated none) refl
due_none Tell S l m seated none = rw (unknown_is S l m seated none) refl

-- an LRA is nested exactly if its record has a parent
pub nested_is : (nodes : ℕ) (S : List Fact) (records : List Record) (x : Id) (r : Record) → IsWhole S → Stands nodes x.home S records → find (is_of x) records ≡ Some r → is_some r.parent ≡ not (is_root S x)
nested_is nodes S records x r whole stands found = by r.parent refl
  where
    held : is_held S x ≡ true
    held = held_if_found nodes S records x r stands found

    by : (o : Option Place) → r.parent ≡ o → is_some r.parent ≡ not (is_root S x)
    by None e = ap is_some e ∙ sym (ap (λ o. not (is_none o)) (found_root nodes S records x r stands held found e))
    by (Some p) e = ap is_some e ∙ sym (ap (λ o. not (is_none o)) (found_parent nodes S records x r p whole stands held found e))

-- the list holds what is due by the records so far
abbrev pub AreDoneSoFar : DutyKind → ℕ → List Fact → List Record → List Due → Type 0
AreDoneSoFar errand home S rs dues = AreAll (Owned (IsDueAt home S (duty_of errand)) (λ d. d.lra.num) rs) is_before dues

pub errand_more : (errand : DutyKind) (nodes home : ℕ) (S : List Fact) (records : List Record) (i : ℕ) (r : Record) (dues more : List Due) → IsSeated S → AreOf home records → Stands nodes home S records → i < length records → r ≡ get_or records i r → find (is_of (at home r.num)) records ≡ Some r → more ≡ dues ++ owed_by (owing_of errand S (at home r.num)) (at home r.num) 1 r.members → AreDoneSoFar errand home S (take i records) dues → AreDoneSoFar errand home S (take (i + 1) records) more
errand_more errand nodes home S records i r dues more seated order stands less is found added h =
    let l = at home r.num in
    let held = held_if_found nodes S records l r stands found in
    let kept = found_is nodes S records l r stands held found in
    let members : r.members ≡ members_of S l = ap (λ (q : Record). q.members) kept in
    let share : AreAll (λ d. IsDueAt home S (duty_of errand) d × (d.lra.num ≡ r.num)) is_before (owed_by (owing_of errand S l) l 1 (members_of S l)) =
    owed_all (owing_of errand S l) home r.num S (duty_of errand) held (λ m p there. due_owes errand S l m p seated there) (λ m none. due_none errand S l m seated none) in
    let next : take (i + 1) records ≡ take i records ++ r ∷ [] = take_more records i r less ∙ ap (λ (q : Record). take i records ++ q ∷ []) (sym is) in
    let gathered = one_record_more (IsDueAt home S (duty_of errand)) (λ d. d.lra.num) is_before (take i records) r dues (owed_by (owing_of errand S l) l 1 (members_of S l)) apart (λ q inside. lesser_before records i r q order.ascending less is inside) h share in
    let all : more ≡ dues ++ owed_by (owing_of errand S l) l 1 (members_of S l) = added ∙ ap (λ ms. dues ++ owed_by (owing_of errand S l) l 1 ms) members in
    subst (λ rs. AreDoneSoFar errand home S rs more) (sym next) (subst (AreDoneSoFar errand home S (take i records ++ r ∷ [])) (sym all) gathered)
  where
    apart : (x y : Due) → x.lra.num < y.lra.num → is_before x y ≡ true
    apart x y e = let t : nat_lt x.lra.num y.lra.num ≡ true = grind (arith, nat_tests, e) in rw t refl

pub errand_whole : (errand : DutyKind) (nodes home : ℕ) (S : List Fact) (records : List Record) (dues : List Due) → Stands nodes home S records → AreDoneSoFar errand home S records dues → AreAll (IsDueAt home S (duty_of errand)) is_before dues
errand_whole errand nodes home S records dues stands h =
    of_all (IsDueAt home S (duty_of errand)) (λ d. d.lra.num) is_before records dues owned h
  where
    owned : (d : Due) → IsDueAt home S (duty_of errand) d → (r : Record) × In r records × (d.lra.num ≡ r.num)
    owned d due =
        let found = stands_at nodes home S records d.lra stands due.own due.held in
        let inside = find_in (is_of d.lra) records (record_of nodes S d.lra) found in
        (record_of nodes S d.lra, inside.0, refl)

-- an LRA that has a record has a number that a fact can have
pub record_number : (nodes home : ℕ) (S : List Fact) (records : List Record) (r : Record) → AllByRecursion IsNumbered S → Stands nodes home S records → find (is_of (at home r.num)) records ≡ Some r → IsFactNumber r.num
record_number nodes home S records r numbered stands found = held_number S (at home r.num) numbered (held_if_found nodes S records (at home r.num) r stands found)
