-- what is made for a participant to whom something is due
use Rattle.std.proofs.Common.{◌≡◌, ◌&&◌, ◌∙◌, ℕ, List, [], refl, sym, ap, Bool, true, false, cond, Option, Some, None, is_some}
use mathlib.Core.Bool.{not}
use Rattle.std.specs.List.{list_any}
use Rattle.std.specs.Option.{option_map_or}
use Rattle.state_ids.specs.Ids.{Id}
use Rattle.state_ids.specs.declared.outcome.Act.{Act}
use Rattle.state_ids.specs.declared.outcome.Act.TheVariants.{Complete as CompleteAct, Compensate as CompensateAct}
use Rattle.state_ids.specs.declared.outcome.Verdict.{Verdict}
use Rattle.state_ids.specs.declared.outcome.Verdict.TheVariants.{Close, Cancel}
use Rattle.state_ids.specs.declared.status.LraStatus.{LraStatus}
use Rattle.state_facts.specs.declared.fact.Fact.{Fact}
use Rattle.state_facts.specs.Links.{Links}
use Rattle.state_facts.specs.Duties.{has_forgot, has_to_compensate, has_to_forget, holds_back, is_after_duty, is_at_end, is_compensation_due, is_forget_duty, is_over, is_uncompensated, owes_after, owes_forget, saga_path, topmost_cancelled}
use Rattle.state_facts.specs.Sets.{demands, has_left, heard, is_demanded, is_ended, is_participant, is_root, links_of, parent_of, status_by, want}
use Rattle.state_forest.specs.declared.duties.Due.{Due}
use Rattle.state_forest.specs.declared.record.Participant.{Participant as ParticipantRecord}
use Rattle.state_forest.specs.Dues.{IsDueAt, is_complete_duty}
use Rattle.state_forest.specs.Participants.{heard_by, joined_as, parent_held, participant_of}
use Rattle.state_forest.proofs.Bools.{and_left, and_right, not_false}
use Rattle.wire_callbacks.specs.declared.answer.Kind.{Kind}
use Rattle.wire_callbacks.specs.declared.answer.Kind.TheVariants.{Status}
use Rattle.wire_callbacks.specs.declared.duty.Duty.{Duty}
use Rattle.wire_callbacks.specs.declared.duty.Purpose.{Purpose}
use Rattle.wire_callbacks.specs.declared.duty.Purpose.TheVariants.{Call, Release, Tell}
use Rattle.wire_callbacks.specs.CallDuties.{act_wanted, asks_status, is_busy, link_for, link_given, shown_for}
use Rattle.wire_callbacks.specs.Errands.{act_from, due_by, duty_from, kind_from, kind_in, kind_of_act}

-- it joined and stayed, an act is wanted, and a link was given
pub record IsReady (S : List Fact) (errand : Purpose) (d : Due) : Type 0 where
  pub links : Links
  pub act : Act
  pub link : List ℕ
  pub joined : links_of S d.lra d.member ≡ Some links
  pub stayed : has_left S d.lra d.member ≡ false
  pub wanted : act_from S errand d ≡ Some act
  pub given : link_for (kind_from S errand d) links ≡ Some link

some_of : {X : Type 0} (o : Option X) → is_some o ≡ true → (x : X) × (o ≡ Some x)
some_of None e = absurd cc
some_of (Some x) e = (x, refl)

-- whatever is due is due to a participant
joins : (S : List Fact) (errand : Purpose) (l : Id) (m : ℕ) → due_by errand S l m ≡ true → is_participant S l m ≡ true
joins S (Call CompleteAct) l m e = and_left (is_participant S l m) _ e
joins S Release l m e = and_left (is_participant S l m) _ e
joins S Tell l m e = and_left (is_participant S l m) _ e
joins S (Call CompensateAct) l m e = by (topmost_cancelled S l) e
  where
    rest : Id → Bool
    rest a = is_uncompensated S l m && not (list_any (λ (f : Fact). holds_back S a (saga_path S l m) f.body) S)

    by : (o : Option Id) → option_map_or (λ a. is_participant S l m && rest a) o false ≡ true → is_participant S l m ≡ true
    by None f = absurd cc
    by (Some a) f = and_left (is_participant S l m) (rest a) f

-- a participant that is asked for its status has a link for that
asked : (S : List Fact) (l : Id) (m : ℕ) (act : Act) (links : Links) → links_of S l m ≡ Some links → asks_status S l m act ≡ true → is_some links.status ≡ true
asked S l m act links joined e =
    sym (ap (λ o. option_map_or (λ (given : Links). is_some given.status) o false) joined) ∙ and_right (is_busy (heard S l m act)) _ e

-- a participant that is to complete has a link for that
completes : (S : List Fact) (l : Id) (m : ℕ) (links : Links) → links_of S l m ≡ Some links → is_complete_duty S l m ≡ true → is_some links.complete ≡ true
completes S l m links joined e = by (want S l) (sym (ap (λ o. option_map_or (λ given. demands (want S l) given CompleteAct) o false) joined) ∙ and_left (is_demanded S l m CompleteAct) _ (and_right (is_participant S l m) _ e))
  where
    by : (w : Option Verdict) → demands w links CompleteAct ≡ true → is_some links.complete ≡ true
    by None f = absurd cc
    by (Some Close) f = f
    by (Some Cancel) f = absurd cc

-- a participant that is to compensate has a link for that
compensates : (S : List Fact) (l : Id) (m : ℕ) (links : Links) → links_of S l m ≡ Some links → is_compensation_due S l m ≡ true → is_some links.compensate ≡ true
compensates S l m links joined e = by (topmost_cancelled S l) e
  where
    by : (o : Option Id) → option_map_or (λ a. is_participant S l m && (is_uncompensated S l m && not (list_any (λ (f : Fact). holds_back S a (saga_path S l m) f.body) S))) o false ≡ true → is_some links.compensate ≡ true
    by None f = absurd cc
    by (Some a) f =
        let due : is_uncompensated S l m ≡ true = and_left (is_uncompensated S l m) _ (and_right (is_participant S l m) _ f) in
        let has : has_to_compensate links (heard S l m CompensateAct) ≡ true = sym (ap (λ o. option_map_or (λ (given : Links). has_to_compensate given (heard S l m CompensateAct)) o false) joined) ∙ due in
        and_left (is_some links.compensate) _ has

hearing : (S : List Fact) (l : Id) (m : ℕ) (links : Links) → links_of S l m ≡ Some links → is_after_duty S l m ≡ true → owes_after S l m links ≡ true
hearing S l m links joined e = sym (ap (λ o. option_map_or (owes_after S l m) o false) joined) ∙ and_right (is_participant S l m) _ e

-- if a participant is notified of the end, its LRA wants something
hears : (S : List Fact) (l : Id) (m : ℕ) (links : Links) → owes_after S l m links ≡ true → (act : Act) × (act_wanted (want S l) ≡ Some act)
hears S l m links e = by (want S l) (and_left (is_some (want S l)) _ (and_left (is_ended S l) _ (and_left (is_at_end S l) _ e)))
  where
    by : (w : Option Verdict) → is_some w ≡ true → (act : Act) × (act_wanted w ≡ Some act)
    by None f = absurd cc
    by (Some Close) f = (CompleteAct, refl)
    by (Some Cancel) f = (CompensateAct, refl)

owing : (S : List Fact) (l : Id) (m : ℕ) (links : Links) → links_of S l m ≡ Some links → is_forget_duty S l m ≡ true → owes_forget S l m links ≡ true
owing S l m links joined e = sym (ap (λ o. option_map_or (owes_forget S l m) o false) joined) ∙ and_right (is_participant S l m) _ e

-- if a participant is to forget, its LRA wants something
forgets : (S : List Fact) (l : Id) (m : ℕ) (links : Links) → owes_forget S l m links ≡ true → (act : Act) × (act_wanted (want S l) ≡ Some act)
forgets S l m links e =
    let rest = and_right (is_some links.forget) _ (and_right (is_over S l) _ e) in
    by (want S l) (and_right (not (has_forgot S l m)) _ rest)
  where
    by : (w : Option Verdict) → has_to_forget (not (is_root S l)) (status_by w links (heard S l m CompleteAct) (heard S l m CompensateAct)) ≡ true → (act : Act) × (act_wanted w ≡ Some act)
    by None f = absurd (idle (not (is_root S l)) f)
      where
        idle : (nested : Bool) → has_to_forget nested (status_by None links (heard S l m CompleteAct) (heard S l m CompensateAct)) ≡ true → ⊥
        idle true g = cc
        idle false g = cc
    by (Some Close) f = (CompleteAct, refl)
    by (Some Cancel) f = (CompensateAct, refl)

-- the act and the link
acts : (S : List Fact) (errand : Purpose) (d : Due) (links : Links) → links_of S d.lra d.member ≡ Some links → due_by errand S d.lra d.member ≡ true → (act : Act) × (act_from S errand d ≡ Some act)
acts S (Call act) d links joined e = (act, refl)
acts S Release d links joined e = forgets S d.lra d.member links (owing S d.lra d.member links joined e)
acts S Tell d links joined e = hears S d.lra d.member links (hearing S d.lra d.member links joined e)

gives : (S : List Fact) (errand : Purpose) (d : Due) (links : Links) → links_of S d.lra d.member ≡ Some links → due_by errand S d.lra d.member ≡ true → is_some (link_for (kind_from S errand d) links) ≡ true
gives S Release d links joined e =
    and_left (is_some links.forget) _ (and_right (is_over S d.lra) _ (owing S d.lra d.member links joined e))
gives S Tell d links joined e =
    and_left (is_some links.after) _ (and_right (is_at_end S d.lra) _ (hearing S d.lra d.member links joined e))
gives S (Call act) d links joined e = by act (asks_status S d.lra d.member act) refl e
  where
    by : (a : Act) (b : Bool) → asks_status S d.lra d.member a ≡ b → due_by (Call a) S d.lra d.member ≡ true → is_some (link_for (cond b Status (kind_of_act a)) links) ≡ true
    by a true t f = asked S d.lra d.member a links joined t
    by CompleteAct false t f = completes S d.lra d.member links joined f
    by CompensateAct false t f = compensates S d.lra d.member links joined f

pub ready : (home : ℕ) (S : List Fact) (errand : Purpose) (d : Due) → IsDueAt home S (due_by errand) d → IsReady S errand d
ready home S errand d due =
    let joins = joins S errand d.lra d.member due.owed in
    let links = some_of (links_of S d.lra d.member) (and_left (is_some (links_of S d.lra d.member)) _ joins) in
    let act = acts S errand d links.0 links.1 due.owed in
    let link = some_of (link_for (kind_from S errand d) links.0) (gives S errand d links.0 links.1 due.owed) in
    record {
      links = links.0;
      act = act.0;
      link = link.0;
      joined = links.1;
      stayed = not_false _ (and_right (is_some (links_of S d.lra d.member)) _ joins);
      wanted = act.1;
      given = link.1;
    }

-- what the view keeps of the participant
pub participant_is : (home : ℕ) (S : List Fact) (errand : Purpose) (d : Due) (due : IsDueAt home S (due_by errand) d) (r : IsReady S errand d) → participant_of S d.lra d.member ≡ Some (joined_as S d.lra d.member r.links)
participant_is home S errand d due r = let held = due.held in let stayed = r.stayed in let joined = r.joined in rw (held, stayed, joined) refl

pub link_is : (S : List Fact) (errand : Purpose) (d : Due) (r : IsReady S errand d) → link_given S (kind_from S errand d) d.lra d.member ≡ Some r.link
link_is S errand d r = ap (λ o. option_map_or (link_for (kind_from S errand d)) o None) r.joined ∙ r.given

-- the kind by the view is the kind by the set
pub kind_is : (S : List Fact) (errand : Purpose) (d : Due) (links : Links) → links_of S d.lra d.member ≡ Some links → kind_in errand (joined_as S d.lra d.member links) ≡ kind_from S errand d
kind_is S Release d links joined = refl
kind_is S Tell d links joined = refl
kind_is S (Call act) d links joined = ap (λ b. cond b Status (kind_of_act act)) (by act)
  where
    by : (a : Act) → (is_busy (heard_by (joined_as S d.lra d.member links) a) && is_some links.status) ≡ asks_status S d.lra d.member a
    by CompleteAct = ap (λ b. is_busy (heard S d.lra d.member CompleteAct) && b) (sym (ap (λ o. option_map_or (λ (given : Links). is_some given.status) o false) joined))
    by CompensateAct = ap (λ b. is_busy (heard S d.lra d.member CompensateAct) && b) (sym (ap (λ o. option_map_or (λ (given : Links). is_some given.status) o false) joined))

-- the duty that is made from the view
pub made : (home : ℕ) (S : List Fact) (errand : Purpose) (d : Due) → IsDueAt home S (due_by errand) d → (p : ParticipantRecord) (kind : Kind) (act : Act) (link : List ℕ) (parent : Option Id) (shows : Option LraStatus) → Some p ≡ participant_of S d.lra d.member → kind ≡ kind_in errand p → Some act ≡ act_from S errand d → Some link ≡ link_for kind p.links → parent ≡ parent_held S d.lra → shows ≡ shown_for S kind d.lra → ◌≡◌ {A = Duty} (record { kind = kind; act = act; id = d.lra; member = d.member; link = link; parent = parent; shows = shows }) (duty_from S errand d)
made home S errand d due p kind act link parent shows kept is_kind is_act is_link is_parent is_shown =
    ap (λ k. mk k act link parent shows) kinds ∙ ap (λ a. mk (kind_from S errand d) a link parent shows) acting ∙ ap (λ l. mk (kind_from S errand d) the_act l parent shows) linked
    ∙ ap (λ o. mk (kind_from S errand d) the_act the_link o shows) nested ∙ ap (mk (kind_from S errand d) the_act the_link (parent_of S d.lra)) showing
  where
    the_act : Act
    the_act = option_map_or (λ a. a) (act_from S errand d) CompleteAct

    the_link : List ℕ
    the_link = option_map_or (λ l. l) (link_given S (kind_from S errand d) d.lra d.member) []

    mk : Kind → Act → List ℕ → Option Id → Option LraStatus → Duty
    mk k a l o s = record { kind = k; act = a; id = d.lra; member = d.member; link = l; parent = o; shows = s }

    r : IsReady S errand d
    r = ready home S errand d due

    same : p ≡ joined_as S d.lra d.member r.links
    same = let e : ◌≡◌ {A = Option ParticipantRecord} (Some p) (Some (joined_as S d.lra d.member r.links)) = kept ∙ participant_is home S errand d due r in cc

    kinds : kind ≡ kind_from S errand d
    kinds = is_kind ∙ ap (kind_in errand) same ∙ kind_is S errand d r.links r.joined

    acting : act ≡ option_map_or (λ a. a) (act_from S errand d) CompleteAct
    acting = ap (λ (o : Option Act). option_map_or (λ a. a) o CompleteAct) is_act

    given : Some link ≡ link_given S (kind_from S errand d) d.lra d.member
    given = is_link ∙ ap (λ k. link_for k p.links) kinds ∙ ap (λ (q : ParticipantRecord). link_for (kind_from S errand d) q.links) same ∙ sym (ap (λ o. option_map_or (link_for (kind_from S errand d)) o None) r.joined)

    linked : link ≡ option_map_or (λ l. l) (link_given S (kind_from S errand d) d.lra d.member) []
    linked = ap (λ (o : Option (List ℕ)). option_map_or (λ l. l) o []) given

    nested : parent ≡ parent_of S d.lra
    nested = let held = due.held in is_parent ∙ rw held refl

    showing : shows ≡ shown_for S (kind_from S errand d) d.lra
    showing = is_shown ∙ ap (λ k. shown_for S k d.lra) kinds
