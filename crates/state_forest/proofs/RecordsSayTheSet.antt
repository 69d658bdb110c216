-- what records say is what the set that they stand for says
use Rattle.std.proofs.Common.{◌≡◌, ◌≤◌, ◌<◌, ◌-◌, ◌&&◌, ◌||◌, ◌==◌, ℕ, zero, suc, List, [], ◌∷◌, refl, sym, ap, ◌∙◌, Bool, true, false, cond, arith, Option, Some, None, Ok, is_some, length, nat_le, nat_lt}
use mathlib.Core.Bool.{not}
use Rattle.std.proofs.lemmas.Bool.Decides.{nat_tests}
use Rattle.std.specs.List.{list_any}
use Rattle.std.specs.Option.{option_map_or}
use Rattle.state_ids.specs.Ids.{Id}
use Rattle.state_ids.specs.States.{level, same_member_status, same_verdict, shown}
use Rattle.state_ids.specs.declared.outcome.Act.{Act}
use Rattle.state_ids.specs.declared.outcome.Outcome.{Outcome}
use Rattle.state_ids.specs.declared.outcome.Verdict.{Verdict}
use Rattle.state_ids.specs.declared.outcome.Verdict.TheVariants.{Close, Cancel}
use Rattle.state_ids.specs.declared.status.LraStatus.{LraStatus}
use Rattle.state_ids.specs.declared.status.MemberStatus.{MemberStatus}
use Rattle.state_ids.specs.declared.status.MemberStatus.TheVariants.{FailedToComplete, FailedToCompensate}
use Rattle.state_facts.specs.declared.fact.Fact.{Fact}
use Rattle.state_facts.specs.Sets.{demands, depth, is_begun, is_demanded, is_ended, is_heard, is_held, is_open, is_participant, member_status, numbers_given, shows_now, some_shows, want}
use Rattle.state_forest.specs.declared.record.Member.{Member}
use Rattle.state_forest.specs.declared.record.Participant.{Participant as ParticipantRecord}
use Rattle.state_forest.specs.declared.record.Place.{Place}
use Rattle.state_forest.specs.declared.record.Record.{Record}
use Rattle.state_forest.specs.Forests.{HomeRecords, is_of}
use Rattle.state_forest.specs.Records.{members_of, record_of}
use Rattle.state_forest.specs.MembersByNumber.{numbered}
use Rattle.state_forest.specs.Participants.{answered_of, heard_by, participant_at}
use Rattle.state_forest.specs.Places.{put_record}
use Rattle.state_forest.specs.Said.{depth_at, has_decision, is_demanded_at, is_ended_at, is_heard_at, member_shown_at, members_at, participant_of, records_up, shown_at, some_shows_at, want_at, wanted_by, with_above}
use Rattle.state_forest.specs.Shape.{found_at}
use Rattle.state_forest.specs.Standing.{IsNested, IsSeated, IsWhole, Stands, answered}
use Rattle.state_forest.specs.Statuses.{shows_within, status_at}
use Rattle.state_forest.specs.Trees.{tree_shown_at, tree_shows, tree_status}
use Rattle.state_forest.specs.Wants.{over}
use Rattle.state_forest.proofs.Bools.{and_left}
use Rattle.state_forest.proofs.ParticipantAnswers.{demanded_is, heard_is, known_is, unknown_is}
use Rattle.state_forest.proofs.Depths.{depth_above, depth_alone, members_given}
use Rattle.state_forest.proofs.ShownByMembers.{descent, some_depth}
use Rattle.state_forest.proofs.NumberedMembers.{member_law}
use Rattle.state_forest.proofs.RecordsOfASet.{found_parent, held_parent, nothing_found, stands_at}
use Rattle.state_forest.proofs.WantsByParents.{over_none, want_above, want_alone}

-- Up

wanted_or : (d : Option Verdict) (a b : Bool) → cond (option_map_or (same_verdict Cancel) d false || a) (Some Cancel) (cond (option_map_or (same_verdict Close) d false || b) (Some Close) None) ≡ over d (cond a (Some Cancel) (cond b (Some Close) None))
wanted_or None a b = refl
wanted_or (Some Cancel) a b = refl
wanted_or (Some Close) true b = refl
wanted_or (Some Close) false true = refl
wanted_or (Some Close) false false = refl

-- what a chain wants depends on its first record and on the others
pub wanted_more : (r : Record) (above : List Record) → wanted_by (r ∷ above) ≡ over r.decision (wanted_by above)
wanted_more r above = wanted_or r.decision (list_any (has_decision Cancel) above) (list_any (has_decision Close) above)

pub up_none : (levels : ℕ) (at : ℕ → Option Record) (num : ℕ) → at num ≡ None → records_up levels at num ≡ []
unfolding records_up
up_none zero at num e = refl
up_none (suc levels) at num e = ap (λ (o : Option Record). option_map_or (with_above (records_up levels at)) o []) e

pub up_root : (levels : ℕ) (at : ℕ → Option Record) (num : ℕ) (r : Record) → 0 < levels → at num ≡ Some r → r.parent ≡ None → records_up levels at num ≡ r ∷ []
unfolding records_up
up_root zero at num r some e root = absurd (omega (arith, some))
up_root (suc levels) at num r some e root =
    ap (λ (o : Option Record). option_map_or (with_above (records_up levels at)) o []) e
    ∙ ap (λ (o : Option Place). r ∷ option_map_or (λ (p : Place). records_up levels at p.number) o []) root

pub up_more : (levels : ℕ) (at : ℕ → Option Record) (num : ℕ) (r : Record) (p : Place) → 0 < levels → at num ≡ Some r → r.parent ≡ Some p → records_up levels at num ≡ r ∷ records_up (levels - 1) at p.number
unfolding records_up
up_more zero at num r p some e parent = absurd (omega (arith, some))
up_more (suc levels) at num r p some e parent =
    let less : levels ≡ suc levels - 1 = omega arith in
    ap (λ (o : Option Record). option_map_or (with_above (records_up levels at)) o []) e
    ∙ ap (λ (o : Option Place). r ∷ option_map_or (λ (q : Place). records_up levels at q.number) o []) parent
    ∙ ap (λ (k : ℕ). r ∷ records_up k at p.number) less

-- what an LRA wants depends on its own decision and on what is wanted above it
pub wanted_above : (at : ℕ → Option Record) (num : ℕ) (r : Record) (p : Place) → at num ≡ Some r → r.parent ≡ Some p → over r.decision (wanted_by (records_up 7 at p.number)) ≡ want_at at num
wanted_above at num r p found parent = sym (ap wanted_by (up_more 8 at num r p (omega arith) found parent) ∙ wanted_more r (records_up 7 at p.number))

pub wanted_alone : (at : ℕ → Option Record) (num : ℕ) (r : Record) → at num ≡ Some r → r.parent ≡ None → r.decision ≡ want_at at num
wanted_alone at num r found root = sym (ap wanted_by (up_root 8 at num r (omega arith) found root) ∙ wanted_more r [] ∙ over_none r.decision)

pub up_nothing : (at : ℕ → Option Record) (num : ℕ) → records_up 0 at num ≡ []
unfolding records_up
up_nothing at num = refl

-- what a complete chain of records wants, and how many records it has
record IsSaidUp (S : List Fact) (l : Id) (chain : List Record) : Type 0 where
  wants : wanted_by chain ≡ want S l
  deep : length chain ≡ depth S l

said_up : (nodes home : ℕ) (S : List Fact) (records : List Record) → IsWhole S → Stands nodes home S records → (levels num : ℕ) → is_held S (record { home = home; num = num }) ≡ true → depth S (record { home = home; num = num }) ≤ levels → IsSaidUp S (record { home = home; num = num }) (records_up levels (found_at home records) num)
said_up nodes home S records whole stands zero num held low = absurd (omega (arith, low, some_depth S (record { home = home; num = num }) whole))
said_up nodes home S records whole stands (suc levels) num held low =
    by (λ above kept deep. said_up nodes home S records whole stands levels above kept deep) (found_at home records num) refl
  where
    Above : Type 0
    Above = (above : ℕ) → is_held S (record { home = home; num = above }) ≡ true → depth S (record { home = home; num = above }) ≤ levels → IsSaidUp S (record { home = home; num = above }) (records_up levels (found_at home records) above)

    l : Id
    l = record { home = home; num = num }

    nested : Above → (r : Record) (p : Place) → found_at home records num ≡ Some r → r.parent ≡ Some p → IsSaidUp S l (records_up (suc levels) (found_at home records) num)
    nested rises r p found parent =
        let above : Id = record { home = home; num = p.number } in
        let up = found_parent nodes S records l r p whole stands held found parent in
        let deeper = depth_above nodes S records l r p whole stands held found parent in
        let less : suc levels - 1 ≡ levels = omega arith in
        let rest = rises p.number (held_parent S l above whole held up) (omega (arith, low, deeper)) in
        let chain = up_more (suc levels) (found_at home records) num r p (omega arith) found parent ∙ ap (λ (k : ℕ). r ∷ records_up k (found_at home records) p.number) less in
        record {
          wants = ap wanted_by chain ∙ wanted_more r (records_up levels (found_at home records) p.number) ∙ ap (over r.decision) rest.wants ∙ sym (want_above nodes S records l r p whole stands held found parent);
          deep = ap (λ (rs : List Record). length rs) chain ∙ ap (λ (n : ℕ). suc n) rest.deep ∙ sym deeper;
        }

    root : (r : Record) → found_at home records num ≡ Some r → r.parent ≡ None → IsSaidUp S l (records_up (suc levels) (found_at home records) num)
    root r found none =
        let chain = up_root (suc levels) (found_at home records) num r (omega arith) found none in
        record {
          wants = ap wanted_by chain ∙ wanted_more r [] ∙ over_none r.decision ∙ sym (want_alone nodes S records l r whole stands held found none);
          deep = ap (λ (rs : List Record). length rs) chain ∙ sym (depth_alone nodes S records l r whole stands held found none);
        }

    by_parent : Above → (r : Record) (o : Option Place) → found_at home records num ≡ Some r → r.parent ≡ o → IsSaidUp S l (records_up (suc levels) (found_at home records) num)
    by_parent rises r None found e = root r found e
    by_parent rises r (Some p) found e = nested rises r p found e

    by : Above → (o : Option Record) → found_at home records num ≡ o → IsSaidUp S l (records_up (suc levels) (found_at home records) num)
    by rises None e = absurd (nothing_found nodes S records l stands held e)
    by rises (Some r) e = by_parent rises r r.parent e refl

said_of : (nodes : ℕ) (S : List Fact) (records : List Record) (l : Id) → IsWhole S → IsNested S → Stands nodes l.home S records → is_held S l ≡ true → IsSaidUp S l (records_up 8 (found_at l.home records) l.num)
said_of nodes S records l whole nest stands held = said_up nodes l.home S records whole stands 8 l.num held (nest.shallow l (and_left (is_begun S l) _ held))

pub want_said : (nodes : ℕ) (S : List Fact) (records : List Record) (l : Id) → IsWhole S → IsNested S → Stands nodes l.home S records → is_held S l ≡ true → want_at (found_at l.home records) l.num ≡ want S l
want_said nodes S records l whole nest stands held = (said_of nodes S records l whole nest stands held).wants

pub depth_said : (nodes : ℕ) (S : List Fact) (records : List Record) (l : Id) → IsWhole S → IsNested S → Stands nodes l.home S records → is_held S l ≡ true → depth_at (found_at l.home records) l.num ≡ depth S l
depth_said nodes S records l whole nest stands held = (said_of nodes S records l whole nest stands held).deep

-- whether an LRA is there is whether it has a record
pub there_said : (nodes : ℕ) (S : List Fact) (records : List Record) (l : Id) → Stands nodes l.home S records → is_some (found_at l.home records l.num) ≡ is_held S l
there_said nodes S records l stands = ap is_some (stands l refl) ∙ by (is_held S l)
  where
    by : (b : Bool) → is_some (cond b (Some (record_of nodes S l)) None) ≡ b
    by true = refl
    by false = refl

-- Members

pub members_said : (nodes : ℕ) (S : List Fact) (records : List Record) (l : Id) → Stands nodes l.home S records → is_held S l ≡ true → members_at (found_at l.home records) l.num ≡ members_of S l
members_said nodes S records l stands held = ap (λ (o : Option Record). option_map_or (λ (r : Record). r.members) o []) (stands_at nodes l.home S records l stands refl held)

-- Down

pub some_shows_said : (test : MemberStatus → Bool) (nodes : ℕ) (S : List Fact) (records : List Record) (l : Id) → IsWhole S → IsNested S → Stands nodes l.home S records → is_held S l ≡ true → some_shows_at test (found_at l.home records) l.num ≡ some_shows test S l
some_shows_said test nodes S records l whole nest stands held =
    let h : HomeRecords = record { home = l.home; records = records; spare = 0 } in
    ap (λ (w : Option Verdict). list_any (shows_within 7 test (found_at l.home records) l.num w) (members_at (found_at l.home records) l.num)) (want_said nodes S records l whole nest stands held)
    ∙ ap (list_any (shows_within 7 test (found_at l.home records) l.num (want S l))) (members_said nodes S records l stands held)
    ∙ descent test nodes S h whole nest stands 7 l refl held (omega (arith, some_depth S l whole))

pub ended_said : (nodes : ℕ) (S : List Fact) (records : List Record) (l : Id) → IsWhole S → IsNested S → Stands nodes l.home S records → is_held S l ≡ true → is_ended_at (found_at l.home records) l.num ≡ is_ended S l
ended_said nodes S records l whole nest stands held =
    ap (λ (w : Option Verdict). is_some w && not (some_shows_at is_open (found_at l.home records) l.num)) (want_said nodes S records l whole nest stands held)
    ∙ ap (λ (b : Bool). is_some (want S l) && not b) (some_shows_said is_open nodes S records l whole nest stands held)

pub shown_said : (nodes : ℕ) (S : List Fact) (records : List Record) (l : Id) → IsWhole S → IsNested S → Stands nodes l.home S records → is_held S l ≡ true → shown_at (found_at l.home records) l.num ≡ shows_now S l
shown_said nodes S records l whole nest stands held =
    let at = found_at l.home records in
    ap (λ (w : Option Verdict). shown w (is_ended_at at l.num) (some_shows_at (same_member_status FailedToComplete) at l.num) (some_shows_at (same_member_status FailedToCompensate) at l.num)) (want_said nodes S records l whole nest stands held)
    ∙ ap (λ (b : Bool). shown (want S l) b (some_shows_at (same_member_status FailedToComplete) at l.num) (some_shows_at (same_member_status FailedToCompensate) at l.num)) (ended_said nodes S records l whole nest stands held)
    ∙ ap (λ (b : Bool). shown (want S l) (is_ended S l) b (some_shows_at (same_member_status FailedToCompensate) at l.num)) (some_shows_said (same_member_status FailedToComplete) nodes S records l whole nest stands held)
    ∙ ap (λ (b : Bool). shown (want S l) (is_ended S l) (some_shows (same_member_status FailedToComplete) S l) b) (some_shows_said (same_member_status FailedToCompensate) nodes S records l whole nest stands held)

pub tree_said : (nodes : ℕ) (S : List Fact) (records : List Record) (l : Id) → IsWhole S → IsNested S → Stands nodes l.home S records → is_held S l ≡ true → tree_shown_at (found_at l.home records) l.num ≡ tree_shows S l
tree_said nodes S records l whole nest stands held =
    let at = found_at l.home records in
    ap (λ (s : LraStatus). tree_status s (some_shows_at (same_member_status FailedToCompensate) at l.num)) (shown_said nodes S records l whole nest stands held)
    ∙ ap (tree_status (shows_now S l)) (some_shows_said (same_member_status FailedToCompensate) nodes S records l whole nest stands held)

-- Answers

-- an answer that depends on whether an LRA has a record is the answer that depends on whether it is
-- held
pub answer_said : {X : Type 0} (nodes : ℕ) (S : List Fact) (records : List Record) (l : Id) (x y : X) → Stands nodes l.home S records → (is_held S l ≡ true → x ≡ y) → answered (is_some (found_at l.home records l.num)) x ≡ answered (is_held S l) y
answer_said nodes S records l x y stands same = ap (λ (b : Bool). answered b x) (there_said nodes S records l stands) ∙ by (is_held S l) same
  where
    by : (b : Bool) → (b ≡ true → x ≡ y) → answered b x ≡ answered b y
    by true e = ap (λ a. Ok a) (e refl)
    by false e = refl

pub known_said : {X : Type 0} (nodes : ℕ) (S : List Fact) (records : List Record) (l : Id) (known had : Bool) (x y : X) → Stands nodes l.home S records → (is_held S l ≡ true → known ≡ had) → (is_held S l ≡ true → had ≡ true → x ≡ y) → answered_of (is_some (found_at l.home records l.num)) known x ≡ answered_of (is_held S l) had y
known_said nodes S records l known had x y stands alike same = ap (λ (b : Bool). answered_of b known x) (there_said nodes S records l stands) ∙ by (is_held S l) known had alike same
  where
    by : (b k h : Bool) → (b ≡ true → k ≡ h) → (b ≡ true → h ≡ true → x ≡ y) → answered_of b k x ≡ answered_of b h y
    by false k h e s = refl
    by true true true e s = ap (λ a. Ok a) (s refl refl)
    by true false false e s = refl
    by true true false e s = absurd (let wrong = e refl in cc)
    by true false true e s = absurd (let wrong = e refl in cc)

pub member_shown_said : (nodes : ℕ) (S : List Fact) (records : List Record) (l : Id) (m : ℕ) → IsWhole S → IsNested S → IsSeated S → Stands nodes l.home S records → is_held S l ≡ true → member_shown_at (found_at l.home records) l.num m ≡ member_status S l m
member_shown_said nodes S records l m whole nest seated stands held =
    ap (λ (w : Option Verdict). status_at w (numbered (members_at (found_at l.home records) l.num) m)) (want_said nodes S records l whole nest stands held)
    ∙ ap (λ (ms : List Member). status_at (want S l) (numbered ms m)) (members_said nodes S records l stands held)
    ∙ member_law S l m seated held

pub participant_said : (nodes : ℕ) (S : List Fact) (records : List Record) (l : Id) (m : ℕ) → IsSeated S → Stands nodes l.home S records → is_held S l ≡ true → is_some (participant_of (found_at l.home records) l.num m) ≡ is_participant S l m
participant_said nodes S records l m seated stands held =
    ap (λ (ms : List Member). is_some (participant_at (numbered ms m))) (members_said nodes S records l stands held) ∙ by (participant_at (numbered (members_of S l) m)) refl
  where
    by : (o : Option ParticipantRecord) → participant_at (numbered (members_of S l) m) ≡ o → is_some o ≡ is_participant S l m
    by None e = sym (unknown_is S l m seated e)
    by (Some p) e = sym (known_is S l m p seated e).known

pub demanded_said : (nodes : ℕ) (S : List Fact) (records : List Record) (l : Id) (m : ℕ) (act : Act) → IsWhole S → IsNested S → IsSeated S → Stands nodes l.home S records → is_held S l ≡ true → is_participant S l m ≡ true → is_demanded_at (found_at l.home records) l.num m act ≡ is_demanded S l m act
demanded_said nodes S records l m act whole nest seated stands held some =
    ap (λ (ms : List Member). option_map_or (λ (p : ParticipantRecord). demands (want_at (found_at l.home records) l.num) p.links act) (participant_at (numbered ms m)) false) (members_said nodes S records l stands held)
    ∙ by (participant_at (numbered (members_of S l) m)) refl
  where
    by : (o : Option ParticipantRecord) → participant_at (numbered (members_of S l) m) ≡ o → option_map_or (λ (p : ParticipantRecord). demands (want_at (found_at l.home records) l.num) p.links act) o false ≡ is_demanded S l m act
    by None e = absurd (let none = unknown_is S l m seated e in cc)
    by (Some p) e = demanded_is S l m p (want_at (found_at l.home records) l.num) act (known_is S l m p seated e) (want_said nodes S records l whole nest stands held)

pub heard_said : (nodes : ℕ) (S : List Fact) (records : List Record) (l : Id) (m : ℕ) (act : Act) (outcome : Outcome) → IsSeated S → Stands nodes l.home S records → is_held S l ≡ true → is_participant S l m ≡ true → is_heard_at (found_at l.home records) l.num m act outcome ≡ is_heard S l m act outcome
heard_said nodes S records l m act outcome seated stands held some =
    ap (λ (ms : List Member). option_map_or (λ (p : ParticipantRecord). nat_le (level (Some outcome)) (level (heard_by p act))) (participant_at (numbered ms m)) false) (members_said nodes S records l stands held)
    ∙ by (participant_at (numbered (members_of S l) m)) refl
  where
    by : (o : Option ParticipantRecord) → participant_at (numbered (members_of S l) m) ≡ o → option_map_or (λ (p : ParticipantRecord). nat_le (level (Some outcome)) (level (heard_by p act))) o false ≡ is_heard S l m act outcome
    by None e = absurd (let none = unknown_is S l m seated e in cc)
    by (Some p) e = heard_is S l m p act outcome (known_is S l m p seated e)

pub numbers_said : (nodes : ℕ) (S : List Fact) (records : List Record) (l : Id) → Stands nodes l.home S records → is_held S l ≡ true → length (members_at (found_at l.home records) l.num) ≡ numbers_given S l
numbers_said nodes S records l stands held = ap (λ (ms : List Member). length ms) (members_said nodes S records l stands held) ∙ members_given S l

-- a record that was put is found
pub put_found : (home : ℕ) (next : Record) (qs : List Record) → next.home ≡ home → found_at home (put_record next qs) next.num ≡ Some next
put_found home next [] same = own home next [] same
  where
    own : (home : ℕ) (next : Record) (qs : List Record) → next.home ≡ home → found_at home (next ∷ qs) next.num ≡ Some next
    own home next qs same = let is : is_of (record { home = home; num = next.num }) next ≡ true = grind (arith, nat_tests, same) in rw is refl
put_found home next (q ∷ qs) same = by (put_found home next qs same) (nat_lt q.num next.num) (q.num == next.num) refl
  where
    own : (rest : List Record) → found_at home (next ∷ rest) next.num ≡ Some next
    own rest = let is : is_of (record { home = home; num = next.num }) next ≡ true = grind (arith, nat_tests, same) in rw is refl

    by : found_at home (put_record next qs) next.num ≡ Some next → (b c : Bool) → nat_lt q.num next.num ≡ b → found_at home (cond b (q ∷ put_record next qs) (cond c (next ∷ qs) (next ∷ q ∷ qs))) next.num ≡ Some next
    by rest true c less = let is : is_of (record { home = home; num = next.num }) q ≡ false = grind (arith, nat_tests, less) in rw is rest
    by rest false true less = own qs
    by rest false false less = own (q ∷ qs)
