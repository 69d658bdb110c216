-- the rank of what an LRA shows rises with the facts
use mathlib.Core.Bool.{not}
use Rattle.std.proofs.Common.{◌≡◌, ◌⊎◌, inl, inr, ◌≤◌, ℕ, List, refl, sym, ap, subst, ◌∙◌, Bool, true, false, arith, Option, Some, None, is_none}
use Rattle.std.specs.List.{list_any}
use Rattle.state_ids.specs.Ids.{Id, same_id}
use Rattle.state_ids.specs.Fronts.{IsBelow, count, is_covered}
use Rattle.state_ids.specs.States.{level, rank, same_member_status}
use Rattle.state_ids.specs.declared.status.MemberStatus.{MemberStatus}
use Rattle.state_ids.specs.declared.status.MemberStatus.TheVariants.{FailedToComplete, FailedToCompensate}
use Rattle.state_ids.specs.declared.outcome.Act.TheVariants.{Complete, Compensate}
use Rattle.state_ids.specs.declared.outcome.Outcome.{Outcome}
use Rattle.state_ids.specs.declared.outcome.Verdict.{Verdict}
use Rattle.state_ids.specs.declared.outcome.Verdict.TheVariants.{Close, Cancel}
use Rattle.state_facts.specs.declared.fact.Body.{Body}
use Rattle.state_facts.specs.declared.fact.Body.TheVariants.{Begin, Join, Leave, Decide, Report, Forgot, Told, Purge}
use Rattle.state_facts.specs.declared.fact.Fact.{Fact}
use Rattle.state_facts.specs.Links.{Links}
use Rattle.state_facts.specs.Lists.{In, IsInside}
use Rattle.state_facts.specs.Sets.{begins, chain, has_left, heard, is_begun, is_decided, is_decision, is_held, is_leave, is_open, is_purge, is_purged_root, is_root, is_under, shows, shows_now, some_shows, status_by, want}
use Rattle.state_facts.proofs.Heard.{heard_inside}
use Rattle.state_facts.proofs.Membership.{any_from, any_gives, any_inside}
use Rattle.state_forest.proofs.Bools.{and_left, and_right, not_false}
use Rattle.state_forest.proofs.ParentsAndChains.{begins_at}
use Rattle.state_forest.proofs.NumberedMembers.{same_is, same_self}
use Rattle.state_forest.proofs.UnderAnLra.{join_shows, shown_join}
use Rattle.theory_history.specs.Histories.{History, IsClosed, IsLawful, facts}
use Rattle.theory_history.specs.Rising.{rank_in}
use Rattle.theory_history.proofs.SameChains.{along_chain, chain_goes, chain_order}
use Rattle.theory_history.proofs.Decisions.{active_begun, asks_active, counted_entry, decided_by, decision_asks, entered_before, parent_both, same_chain}
use Rattle.theory_history.proofs.SettledFacts.{begun_inside}
use Rattle.theory_history.proofs.ClosedSets.{closed_settled, facts_inside, in_facts}
use Rattle.theory_history.proofs.Ranks.{force, force_more, rank_held, rank_raised, rank_same, stays_final, stays_incomplete, stays_uncompensated, wants_alike}
use Rattle.theory_history.proofs.Basics.{both_true, covered_le, false_from}

-- Tests

pub true_not : (b : Bool) → (b ≡ true → ⊥) → not b ≡ true
true_not true never = absurd (never refl)
true_not false never = refl

clash : (b : Bool) → b ≡ true → b ≡ false → ⊥
clash b s t = let wrong : true ≡ false = sym s ∙ t in cc

leave_asks : (d : Id) (m : ℕ) (body : Body) → is_leave d m body ≡ true → asks_active d body ≡ true
leave_asks d m (Begin parent deadline) e = absurd cc
leave_asks d m (Join l n links) e = absurd cc
leave_asks d m (Leave l n) e = and_left (same_id l d) _ e
leave_asks d m (Decide l verdict) e = absurd cc
leave_asks d m (Report l n act outcome) e = absurd cc
leave_asks d m (Forgot l n) e = absurd cc
leave_asks d m (Told l n) e = absurd cc
leave_asks d m (Purge l) e = absurd cc

-- What is under an LRA

under_in : (S : List Fact) (l d : Id) → is_under S l d ≡ true → In l (chain S d)
under_in S l d e = let found = any_gives (same_id l) (chain S d) e in subst (λ x. In x (chain S d)) (sym (same_is l found.0 found.2)) found.1

in_under : (S : List Fact) (l d : Id) → In l (chain S d) → is_under S l d ≡ true
in_under S l d m = any_from (same_id l) (chain S d) l m (same_self l)

-- if an LRA of the chain is cancelled, nothing but Cancel is wanted
pub cancel_wanted : (S : List Fact) (l : Id) (x : Verdict) → list_any (is_decided S Cancel) (chain S l) ≡ true → want S l ≡ Some x → x ≡ Cancel
cancel_wanted S l x c e = let cancels : Some Cancel ≡ Some x = rw c at e in cc

cancel_or_close : (S : List Fact) (d : Id) (x : Verdict) (a : Id) → In a (chain S d) → is_decided S x a ≡ true → (list_any (is_decided S Cancel) (chain S d) ≡ true) ⊎ (list_any (is_decided S Close) (chain S d) ≡ true)
cancel_or_close S d Cancel a m e = inl (any_from (is_decided S Cancel) (chain S d) a m e)
cancel_or_close S d Close a m e = inr (any_from (is_decided S Close) (chain S d) a m e)

-- A closed set of a lawful history, and a greater one

pub record IsGrown (h : History) (v w : List ℕ) : Type 0 where
  pub lawful : IsLawful h
  pub before : IsClosed h v
  pub after : IsClosed h w
  pub below : IsBelow v w

grown_inside : (h : History) (v w : List ℕ) → IsGrown h v w → IsInside (facts h v) (facts h w)
grown_inside h v w g = facts_inside h v w g.below

pub begun_later : (h : History) (v w : List ℕ) → IsGrown h v w → (d : Id) → is_begun (facts h v) d ≡ true → is_begun (facts h w) d ≡ true
begun_later h v w g d b = begun_inside (facts h v) (facts h w) (grown_inside h v w g) d b

-- the chain of an LRA that the lesser set has begun stays the same
pub kept_chain : (h : History) (v w : List ℕ) → IsGrown h v w → (d : Id) → is_begun (facts h v) d ≡ true → chain (facts h v) d ≡ chain (facts h w) d
kept_chain h v w g d b = same_chain h g.lawful v w g.before g.after d b (begun_later h v w g d b)

kept_decided : (h : History) (v w : List ℕ) → IsGrown h v w → (x : Verdict) (a : Id) → is_decided (facts h v) x a ≡ true → is_decided (facts h w) x a ≡ true
kept_decided h v w g x a e = any_inside (λ (f : Fact). is_decision a x f.body) (facts h v) (facts h w) (grown_inside h v w g) e

-- a decision in the chain of an LRA that was begun stays
kept_above : (h : History) (v w : List ℕ) → IsGrown h v w → (d : Id) → is_begun (facts h v) d ≡ true → (x : Verdict) → list_any (is_decided (facts h v) x) (chain (facts h v) d) ≡ true → list_any (is_decided (facts h w) x) (chain (facts h w) d) ≡ true
kept_above h v w g d b x e =
    let found = any_gives (is_decided (facts h v) x) (chain (facts h v) d) e in
    any_from (is_decided (facts h w) x) (chain (facts h w) d) found.0 (subst (λ (c : List Id). In found.0 c) (kept_chain h v w g d b) found.1) (kept_decided h v w g x found.0 found.2)

-- What is under an LRA that wants something

-- if l wants the same in both sets, the lesser set has every Cancel under l that the greater has
cancelled_before : (h : History) (v w : List ℕ) → IsGrown h v w → (l : Id) (x : Verdict) → want (facts h v) l ≡ Some x → want (facts h w) l ≡ Some x → (d : Id) → is_begun (facts h v) d ≡ true → In l (chain (facts h w) d)
    → list_any (is_decided (facts h w) Cancel) (chain (facts h w) d) ≡ true → list_any (is_decided (facts h v) Cancel) (chain (facts h v) d) ≡ true
cancelled_before h v w g l x wanted later d begun under e =
    let S = facts h v in
    let T = facts h w in
    let same = kept_chain h v w g d begun in
    let under_before : In l (chain S d) = subst (λ (c : List Id). In l c) (sym same) under in
    let found = any_gives (is_decided T Cancel) (chain T d) e in
    let fact = any_gives (λ (f : Fact). is_decision found.0 Cancel f.body) T found.2 in
    elim (chain_order T (closed_settled h g.lawful w g.after).whole.nested d found.0 l found.1 under) [
      | inl above ↦
          let by = decided_by S l x wanted in
          let cancels : x ≡ Cancel = cancel_wanted T l x (any_from (is_decided T Cancel) (chain T l) found.0 above found.2) later in
          let chained : In by.0 (chain S d) = chain_goes S (closed_settled h g.lawful v g.before).whole.nested d l by.0 under_before by.1 in
          any_from (is_decided S Cancel) (chain S d) by.0 chained (subst (λ y. is_decided S y by.0 ≡ true) cancels by.2)
      | inr beneath ↦
          let had = entered_before h g.lawful v w g.before g.after l x wanted fact.0 fact.1 found.0 (decision_asks found.0 Cancel fact.0.body fact.2) beneath in
          let decided : is_decided S Cancel found.0 ≡ true = any_from (λ (f : Fact). is_decision found.0 Cancel f.body) S fact.0 had fact.2 in
          any_from (is_decided S Cancel) (chain S d) found.0 (subst (λ (c : List Id). In found.0 c) (sym same) found.1) decided
    ]

-- if l wants the same in both sets, so does an LRA under it
pub kept_want : (h : History) (v w : List ℕ) → IsGrown h v w → (l : Id) (x : Verdict) → want (facts h v) l ≡ Some x → want (facts h w) l ≡ Some x → (d : Id) → is_begun (facts h v) d ≡ true → In l (chain (facts h w) d) → want (facts h v) d ≡ want (facts h w) d
kept_want h v w g l x wanted later d begun under =
    let S = facts h v in
    let T = facts h w in
    let by = decided_by S l x wanted in
    let under_before : In l (chain S d) = subst (λ (c : List Id). In l c) (sym (kept_chain h v w g d begun)) under in
    let chained : In by.0 (chain S d) = chain_goes S (closed_settled h g.lawful v g.before).whole.nested d l by.0 under_before by.1 in
    wants_alike (list_any (is_decided S Cancel) (chain S d)) (list_any (is_decided S Close) (chain S d)) (list_any (is_decided T Cancel) (chain T d)) (list_any (is_decided T Close) (chain T d))
    (kept_above h v w g d begun Cancel)
    (cancelled_before h v w g l x wanted later d begun under)
    (kept_above h v w g d begun Close)
    (cancel_or_close S d x by.0 chained by.2)

-- a participant of an LRA under l that left it by the greater set left it by the lesser
left_before : (h : History) (v w : List ℕ) → IsGrown h v w → (l : Id) (x : Verdict) → want (facts h v) l ≡ Some x → (d : Id) (m : ℕ) → In l (chain (facts h w) d) → has_left (facts h w) d m ≡ true → has_left (facts h v) d m ≡ true
left_before h v w g l x wanted d m under left =
    let leave = any_gives (λ (f : Fact). is_leave d m f.body) (facts h w) left in
    let had = entered_before h g.lawful v w g.before g.after l x wanted leave.0 leave.1 d (leave_asks d m leave.0.body leave.2) under in
    any_from (λ (f : Fact). is_leave d m f.body) (facts h v) leave.0 had leave.2

-- if a participant under l is open in the greater set, one is open in the lesser
pub kept_open : (h : History) (v w : List ℕ) → IsGrown h v w → (l : Id) (x : Verdict) → want (facts h v) l ≡ Some x → want (facts h w) l ≡ Some x → some_shows is_open (facts h w) l ≡ true → some_shows is_open (facts h v) l ≡ true
kept_open h v w g l x wanted later e =
    let S = facts h v in
    let T = facts h w in
    let inside = grown_inside h v w g in
    let found = any_gives (λ (f : Fact). shows is_open T l f.body) T e in
    let who = shown_join is_open T l found.0.body found.2 in
    let d = who.0 in
    let m = who.1 in
    let links = who.2 in
    let under = under_in T l d who.4.under in
    let asks : asks_active d found.0.body ≡ true = ap (asks_active d) who.3 ∙ same_self d in
    let had = entered_before h g.lawful v w g.before g.after l x wanted found.0 found.1 d asks under in
    let begun : is_begun S d ≡ true = active_begun h g.lawful v g.before found.0 d had asks in
    let leaves : has_left S d m ≡ true → has_left T d m ≡ true = any_inside (λ (f : Fact). is_leave d m f.body) S T inside in
    let wants : want S d ≡ want T d = kept_want h v w g l x wanted later d begun under in
    let still : is_open (status_by (want S d) links (heard T d m Complete) (heard T d m Compensate)) ≡ true = rw wants who.4.passes in
    join_shows is_open S l d m links found.0 had who.3 (record {
      under = in_under S l d (subst (λ (c : List Id). In l c) (sym (kept_chain h v w g d begun)) under);
      stayed = false_from (has_left S d m) (λ left. clash (has_left T d m) (leaves left) who.4.stayed);
      passes = stays_final (want S d) links (heard S d m Complete) (heard S d m Compensate) (heard T d m Complete) (heard T d m Compensate)
          (heard_inside S T inside d m Complete) (heard_inside S T inside d m Compensate) still;
    })

-- a test of statuses that stays true as more is heard
Stays : (MemberStatus → Bool) → Type 0
Stays test =
    (x : Option Verdict) (links : Links) (a b c d : Option Outcome) → level a ≤ level c → level b ≤ level d → test (status_by x links a b) ≡ true → test (status_by x links c d) ≡ true

-- if a participant under l passes such a test in the lesser set, one does in the greater
kept_failed : (h : History) (v w : List ℕ) → IsGrown h v w → (test : MemberStatus → Bool) → Stays test → (l : Id) (x : Verdict) → want (facts h v) l ≡ Some x → want (facts h w) l ≡ Some x → some_shows test (facts h v) l ≡ true → some_shows test (facts h w) l ≡ true
unfolding Stays
kept_failed h v w g test stays l x wanted later e =
    let S = facts h v in
    let T = facts h w in
    let inside = grown_inside h v w g in
    let found = any_gives (λ (f : Fact). shows test S l f.body) S e in
    let who = shown_join test S l found.0.body found.2 in
    let d = who.0 in
    let m = who.1 in
    let links = who.2 in
    let asks : asks_active d found.0.body ≡ true = ap (asks_active d) who.3 ∙ same_self d in
    let begun : is_begun S d ≡ true = active_begun h g.lawful v g.before found.0 d found.1 asks in
    let under : In l (chain T d) = subst (λ (c : List Id). In l c) (kept_chain h v w g d begun) (under_in S l d who.4.under) in
    let wants : want S d ≡ want T d = kept_want h v w g l x wanted later d begun under in
    let still : test (status_by (want T d) links (heard S d m Complete) (heard S d m Compensate)) ≡ true = rw (← wants) who.4.passes in
    join_shows test T l d m links found.0 (inside found.0 found.1) who.3 (record {
      under = in_under T l d under;
      stayed = false_from (has_left T d m) (λ left. clash (has_left S d m) (left_before h v w g l x wanted d m under left) who.4.stayed);
      passes = stays (want T d) links (heard S d m Complete) (heard S d m Compensate) (heard T d m Complete) (heard T d m Compensate)
          (heard_inside S T inside d m Complete) (heard_inside S T inside d m Compensate) still;
    })

-- Which LRAs are held

-- an LRA that the lesser set covers and the greater has begun was begun in the lesser
begun_before : (h : History) (v w : List ℕ) (l : Id) → is_covered v l ≡ true → is_begun (facts h w) l ≡ true → is_begun (facts h v) l ≡ true
begun_before h v w l covered e =
    let found = any_gives (begins l) (facts h w) e in
    let at = begins_at l found.0 found.2 in
    let entry = counted_entry h w found.0 found.1 in
    let here : count v entry.0.fact.origin ≡ count v l.home = ap (λ (f : Fact). count v f.origin) (sym entry.2) ∙ ap (count v) at.0 in
    let number : entry.0.fact.num ≡ l.num = ap (λ (f : Fact). f.num) (sym entry.2) ∙ at.1 in
    let counted : entry.0.fact.num ≤ count v entry.0.fact.origin = omega (arith, covered_le v l covered, here, number) in
    any_from (begins l) (facts h v) found.0 (subst (λ (f : Fact). In f (facts h v)) (sym entry.2) (in_facts h v entry.0 entry.1 counted)) found.2

-- an LRA that is purged stays purged
purged_later : (h : History) (v w : List ℕ) → IsGrown h v w → (l : Id) → is_begun (facts h v) l ≡ true → list_any (is_purged_root (facts h v)) (chain (facts h v) l) ≡ true → list_any (is_purged_root (facts h w)) (chain (facts h w) l) ≡ true
purged_later h v w g l b e =
    let S = facts h v in
    let T = facts h w in
    let found = any_gives (is_purged_root S) (chain S l) e in
    let a = found.0 in
    let begun : is_begun S a ≡ true = along_chain (λ d. is_begun S d ≡ true) S (closed_settled h g.lawful v g.before).whole.parents l.num l b a found.1 in
    let same = parent_both h g.lawful v w g.before g.after a begun (begun_later h v w g a begun) in
    let root : is_root T a ≡ true = ap is_none (sym same) ∙ and_left (is_root S a) _ found.2 in
    let gone : list_any (λ (f : Fact). is_purge a f.body) T ≡ true = any_inside (λ (f : Fact). is_purge a f.body) S T (grown_inside h v w g) (and_right (is_root S a) _ found.2) in
    any_from (is_purged_root T) (chain T l) a (subst (λ (c : List Id). In a c) (kept_chain h v w g l b) found.1) (both_true (is_root T a) _ root gone)

-- an LRA that the lesser set covers and the greater holds is held in the lesser
held_before : (h : History) (v w : List ℕ) → IsGrown h v w → (l : Id) → is_covered v l ≡ true → is_held (facts h w) l ≡ true → is_held (facts h v) l ≡ true
held_before h v w g l covered e =
    let T = facts h w in
    let begun = begun_before h v w l covered (and_left (is_begun T l) _ e) in
    both_true (is_begun (facts h v) l) _ begun (true_not _ (λ purged.
    clash (list_any (is_purged_root T) (chain T l)) (purged_later h v w g l begun purged) (not_false _ (and_right (is_begun T l) _ e))))

-- Ranks

-- no less is wanted in the greater set
pub wants_more : (h : History) (v w : List ℕ) → IsGrown h v w → (l : Id) → is_begun (facts h v) l ≡ true → force (want (facts h v) l) ≤ force (want (facts h w) l)
wants_more h v w g l b =
    let S = facts h v in
    let T = facts h w in
    force_more (list_any (is_decided S Cancel) (chain S l)) (list_any (is_decided S Close) (chain S l)) (list_any (is_decided T Cancel) (chain T l)) (list_any (is_decided T Close) (chain T l))
    (kept_above h v w g l b Cancel) (kept_above h v w g l b Close)

rank_kept : (h : History) (v w : List ℕ) → IsGrown h v w → (l : Id) (x : Verdict) → want (facts h v) l ≡ Some x → want (facts h w) l ≡ Some x → rank (shows_now (facts h v) l) ≤ rank (shows_now (facts h w) l)
unfolding Stays
rank_kept h v w g l x e f =
    rank_same (want (facts h v) l) (want (facts h w) l) x e f
    (some_shows is_open (facts h v) l) (some_shows (same_member_status FailedToComplete) (facts h v) l) (some_shows (same_member_status FailedToCompensate) (facts h v) l)
    (some_shows is_open (facts h w) l) (some_shows (same_member_status FailedToComplete) (facts h w) l) (some_shows (same_member_status FailedToCompensate) (facts h w) l)
    (kept_open h v w g l x e f)
    (kept_failed h v w g (same_member_status FailedToComplete) (λ y links a b c d p q. stays_incomplete y links a b c d p) l x e f)
    (kept_failed h v w g (same_member_status FailedToCompensate) (λ y links a b c d p q. stays_uncompensated y links a b c d q) l x e f)

rank_begun : (h : History) (v w : List ℕ) → IsGrown h v w → (l : Id) (x y : Option Verdict) → want (facts h v) l ≡ x → want (facts h w) l ≡ y → force x ≤ force y → rank (shows_now (facts h v) l) ≤ rank (shows_now (facts h w) l)
rank_begun h v w g l None y e f le = rw e (omega arith)
rank_begun h v w g l (Some Close) None e f le = absurd (omega (arith, le))
rank_begun h v w g l (Some Cancel) None e f le = absurd (omega (arith, le))
rank_begun h v w g l (Some Cancel) (Some Close) e f le = absurd (omega (arith, le))
rank_begun h v w g l (Some Close) (Some Cancel) e f le = rank_raised (want (facts h v) l) (want (facts h w) l) e f _ _ _ _ _ _
rank_begun h v w g l (Some Close) (Some Close) e f le = rank_kept h v w g l Close e f
rank_begun h v w g l (Some Cancel) (Some Cancel) e f le = rank_kept h v w g l Cancel e f

-- the rank of what a covered LRA shows only rises
pub rank_more : (h : History) (v w : List ℕ) → IsGrown h v w → (l : Id) → is_covered v l ≡ true → rank_in (facts h v) l ≤ rank_in (facts h w) l
rank_more h v w g l covered =
    let S = facts h v in
    let T = facts h w in
    rank_held (is_held S l) (is_held T l) (shows_now S l) (shows_now T l) (held_before h v w g l covered)
    (λ held. rank_begun h v w g l (want S l) (want T l) refl refl (wants_more h v w g l (and_left (is_begun S l) _ held)))
