-- participants, and what the set asks of and heard from them
use Rattle.std.proofs.Common.{◌≡◌, ℕ, List, refl, sym, ap, ◌∙◌, Bool, true, false, cond, Option, Some, None, Ok, nat_le}
use Rattle.std.specs.Option.{option_map_or}
use Rattle.state_ids.specs.Ids.{Id}
use Rattle.state_ids.specs.States.{level}
use Rattle.state_ids.specs.declared.outcome.Act.{Act}
use Rattle.state_ids.specs.declared.outcome.Act.TheVariants.{Complete, Compensate}
use Rattle.state_ids.specs.declared.outcome.Outcome.{Outcome}
use Rattle.state_ids.specs.declared.outcome.Verdict.{Verdict}
use Rattle.state_facts.specs.declared.fact.Body.TheVariants.{Join}
use Rattle.state_facts.specs.declared.fact.Fact.{Fact}
use Rattle.state_facts.specs.Links.{Links}
use Rattle.state_facts.specs.Duties.{has_to_compensate, is_uncompensated}
use Rattle.state_facts.specs.Sets.{demands, gives_number, has_left, heard, is_demanded, is_heard, is_held, is_participant, links_of, member_number, parent_of, want}
use Rattle.state_forest.specs.declared.record.Participant.{Participant as ParticipantRecord}
use Rattle.state_forest.specs.declared.record.Member.{Member}
use Rattle.state_forest.specs.declared.record.Member.TheVariants.{Nested, Participant, Left}
use Rattle.state_forest.specs.MembersByNumber.{numbered}
use Rattle.state_forest.specs.Participants.{answered_of, heard_by, joined_as, parent_held, participant_at, participant_of}
use Rattle.state_forest.specs.Records.{givers, member_by, members_of}
use Rattle.state_forest.specs.Standing.{IsSeated}
use Rattle.state_forest.proofs.NumberedMembers.{get_map, join_found, none_joined, numbered_at, same_self, seat_of}

unless_left : (p : ParticipantRecord) (left : Bool) → participant_at (Some (cond left Left (Participant p))) ≡ cond left None (Some p)
unless_left p true = refl
unless_left p false = refl

-- the participant with a number is the one that joined with it, unless it left
pub participant_law : (S : List Fact) (l : Id) (m : ℕ) → IsSeated S → participant_at (numbered (members_of S l) m) ≡ cond (has_left S l m) None (option_map_or (λ links. Some (joined_as S l m links)) (links_of S l m) None)
participant_law S l m seated = by (links_of S l m) refl
  where
    none : (b : Bool) → ◌≡◌ {A = Option ParticipantRecord} None (cond b None None)
    none true = refl
    none false = refl

    by : (o : Option Links) → links_of S l m ≡ o → participant_at (numbered (members_of S l) m) ≡ cond (has_left S l m) None (option_map_or (λ links. Some (joined_as S l m links)) o None)
    by (Some links) joined =
        let f = join_found S l m links joined in
        let gives : gives_number l f.0.body ≡ true = ap (gives_number l) f.2 ∙ same_self l in
        let seat = seat_of S l f.0 seated f.1 gives in
        let number : m ≡ member_number S l f.0.num = seated.numbers f.0 l m links f.1 f.2 in
        let member = get_map (λ (g : Fact). member_by S l g.num g.body) (givers S l) seat.0 f.0 seat.1 in
        let found = numbered_at (members_of S l) seat.0 m _ (number ∙ seat.2) member in
        let body : member_by S l f.0.num f.0.body ≡ member_by S l f.0.num (Join l m links) = ap (member_by S l f.0.num) f.2 in
        ap participant_at (found ∙ ap (λ x. Some x) body) ∙ unless_left (joined_as S l m links) (has_left S l m)
    by None joined = without (numbered (members_of S l) m) refl ∙ none (has_left S l m)
      where
        without : (o : Option Member) → numbered (members_of S l) m ≡ o → participant_at o ≡ None
        without None e = refl
        without (Some (Nested num)) e = refl
        without (Some Left) e = refl
        without (Some (Participant p)) e = absurd (none_joined S l m p seated joined e)

-- a participant that was found is one of the set, with its links and what was heard of it
pub record IsKnown (S : List Fact) (l : Id) (m : ℕ) (p : ParticipantRecord) : Type 0 where
  pub known : is_participant S l m ≡ true
  pub links : links_of S l m ≡ Some p.links
  pub heard : (act : Act) → heard_by p act ≡ heard S l m act

pub known_is : (S : List Fact) (l : Id) (m : ℕ) (p : ParticipantRecord) → IsSeated S → participant_at (numbered (members_of S l) m) ≡ Some p → IsKnown S l m p
known_is S l m p seated e = by (has_left S l m) (links_of S l m) refl refl (sym (participant_law S l m seated) ∙ e)
  where
    by : (b : Bool) (o : Option Links) → has_left S l m ≡ b → links_of S l m ≡ o → cond b None (option_map_or (λ links. Some (joined_as S l m links)) o None) ≡ Some p → IsKnown S l m p
    by true o s t e = absurd cc
    by false None s t e = absurd cc
    by false (Some links) s t e =
        let same : joined_as S l m links ≡ p = cc in
        record { known = rw (t, s) refl; links = t ∙ ap (λ (q : ParticipantRecord). Some q.links) same; heard = λ act. ap (λ (q : ParticipantRecord). heard_by q act) (sym same) ∙ reads act }
      where
        reads : (act : Act) → heard_by (joined_as S l m links) act ≡ heard S l m act
        reads Complete = refl
        reads Compensate = refl

-- if none is found, the set has no such participant
pub unknown_is : (S : List Fact) (l : Id) (m : ℕ) → IsSeated S → participant_at (numbered (members_of S l) m) ≡ None → is_participant S l m ≡ false
unknown_is S l m seated e = by (has_left S l m) (links_of S l m) refl refl (sym (participant_law S l m seated) ∙ e)
  where
    by : (b : Bool) (o : Option Links) → has_left S l m ≡ b → links_of S l m ≡ o → cond b None (option_map_or (λ links. Some (joined_as S l m links)) o None) ≡ None → is_participant S l m ≡ false
    by true None s t e = rw t refl
    by true (Some links) s t e = rw (t, s) refl
    by false None s t e = rw t refl
    by false (Some links) s t e = absurd cc

pub demanded_is : (S : List Fact) (l : Id) (m : ℕ) (p : ParticipantRecord) (wanted : Option Verdict) (act : Act) → IsKnown S l m p → wanted ≡ want S l → demands wanted p.links act ≡ is_demanded S l m act
demanded_is S l m p wanted act known wants =
    ap (λ w. demands w p.links act) wants ∙ sym (ap (λ o. option_map_or (λ links. demands (want S l) links act) o false) known.links)

pub heard_is : (S : List Fact) (l : Id) (m : ℕ) (p : ParticipantRecord) (act : Act) (outcome : Outcome) → IsKnown S l m p → nat_le (level (Some outcome)) (level (heard_by p act)) ≡ is_heard S l m act outcome
heard_is S l m p act outcome known = ap (λ o. nat_le (level (Some outcome)) (level o)) (known.heard act)

-- by its record a participant is to compensate exactly if the set says so
pub uncompensated_is : (S : List Fact) (l : Id) (m : ℕ) (p : ParticipantRecord) → IsKnown S l m p → is_uncompensated S l m ≡ has_to_compensate p.links p.compensated
uncompensated_is S l m p known =
    ap (λ o. option_map_or (λ (links : Links). has_to_compensate links (heard S l m Compensate)) o false) known.links
    ∙ ap (has_to_compensate p.links) (sym (known.heard Compensate))

pub answer_known : {X : Type 0} (held known : Bool) (y x : X) → held ≡ true → known ≡ true → y ≡ x → Ok y ≡ answered_of held known x
answer_known held known y x h k e = rw (h, k) (ap Ok e)

-- the answer for an LRA that is held, and for one that is not
pub participant_held : (S : List Fact) (l : Id) (m : ℕ) → is_held S l ≡ true → participant_of S l m ≡ cond (has_left S l m) None (option_map_or (λ links. Some (joined_as S l m links)) (links_of S l m) None)
participant_held S l m held = rw held refl

pub participant_lost : (S : List Fact) (l : Id) (m : ℕ) → is_held S l ≡ false → None ≡ participant_of S l m
participant_lost S l m held = rw held refl

pub parent_known : (S : List Fact) (l : Id) (o : Option Id) → is_held S l ≡ true → o ≡ parent_of S l → o ≡ parent_held S l
parent_known S l o held e = rw held e

pub parent_lost : (S : List Fact) (l : Id) → is_held S l ≡ false → None ≡ parent_held S l
parent_lost S l held = rw held refl
