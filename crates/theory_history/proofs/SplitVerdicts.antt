-- if two closed sets differ over Close and Cancel, an LRA further up was cancelled
use Rattle.std.proofs.Common.{◌≡◌, ◌⊎◌, inl, inr, ℕ, List, [], ◌∷◌, refl, sym, ap, subst, ◌∙◌, Bool, true, false, cond, Option, Some, None}
use Rattle.state_ids.specs.Ids.{Id, same_id}
use Rattle.state_ids.specs.States.{same_verdict, shown}
use Rattle.state_ids.specs.declared.status.LraStatus.TheVariants.{Cancelled, Closed, FailedToCancel, FailedToClose}
use Rattle.state_ids.specs.declared.outcome.Verdict.{Verdict}
use Rattle.state_ids.specs.declared.outcome.Verdict.TheVariants.{Close, Cancel}
use Rattle.state_facts.specs.declared.fact.Body.{Body}
use Rattle.state_facts.specs.declared.fact.Body.TheVariants.{Begin, Join, Leave, Decide, Report, Forgot, Told, Purge}
use Rattle.state_facts.specs.declared.fact.Fact.{Fact}
use Rattle.state_facts.specs.Lists.{In}
use Rattle.state_facts.specs.Sets.{chain, is_decided, is_decision, is_held, is_root, parent_of, want}
use Rattle.state_facts.proofs.Membership.{any_from, any_gives}
use Rattle.state_forest.proofs.Bools.{and_left, and_right}
use Rattle.state_forest.proofs.ParentsAndChains.{chain_root}
use Rattle.state_forest.proofs.NumberedMembers.{same_is}
use Rattle.theory_history.specs.Histories.{History, IsClosed, IsLawful, facts}
use Rattle.theory_history.specs.Rising.{IsCancelledAbove, IsShownCancelled, IsShownClosed}
use Rattle.theory_history.proofs.Decisions.{counted_entry, decided_by, decision_asks, entered_before, same_chain, wanted_begun}
use Rattle.theory_history.proofs.ClosedSets.{closed_settled}
use Rattle.theory_history.proofs.AcceptedCommands.{none_is}
use Rattle.theory_history.proofs.RanksRise.{cancel_wanted}
use Rattle.theory_history.proofs.Basics.{own_in_chain}

verdict_is : (x y : Verdict) → same_verdict x y ≡ true → x ≡ y
verdict_is Close Close e = refl
verdict_is Cancel Cancel e = refl
verdict_is Close Cancel e = absurd cc
verdict_is Cancel Close e = absurd cc

decision_is : (l : Id) (x : Verdict) (body : Body) → is_decision l x body ≡ true → body ≡ Decide l x
decision_is l x (Begin parent deadline) e = absurd cc
decision_is l x (Join id m links) e = absurd cc
decision_is l x (Leave id m) e = absurd cc
decision_is l x (Decide id y) e =
    ap (λ (a : Id). Decide a y) (same_is id l (and_left (same_id id l) _ e))
    ∙ ap (λ (v : Verdict). Decide l v) (verdict_is y x (and_right (same_id id l) _ e))
decision_is l x (Report id m act outcome) e = absurd cc
decision_is l x (Forgot id m) e = absurd cc
decision_is l x (Told id m) e = absurd cc
decision_is l x (Purge id) e = absurd cc

-- an LRA that wants Close in one closed set is itself cancelled in none
not_itself : (h : History) → IsLawful h → (v w : List ℕ) → IsClosed h v → IsClosed h w → (l : Id) → want (facts h v) l ≡ Some Close → is_decided (facts h w) Cancel l ≡ true → ⊥
not_itself h lawful v w cv cw l close d =
    let S = facts h v in
    let T = facts h w in
    let found = any_gives (λ (f : Fact). is_decision l Cancel f.body) T d in
    let had : In found.0 S = entered_before h lawful v w cv cw l Close close found.0 found.1 l (decision_asks l Cancel found.0.body found.2) (own_in_chain T l.num l) in
    let decided : is_decided S Cancel l ≡ true = any_from (λ (f : Fact). is_decision l Cancel f.body) S found.0 had found.2 in
    let cancels : Close ≡ Cancel = cancel_wanted S l Close (any_from (is_decided S Cancel) (chain S l) l (own_in_chain S l.num l) decided) close in
    cc

-- if an LRA wants Close in one closed set and Cancel in another, an LRA further up was cancelled
pub parted : (h : History) → IsLawful h → (v w : List ℕ) → IsClosed h v → IsClosed h w → (l : Id) → want (facts h v) l ≡ Some Close → want (facts h w) l ≡ Some Cancel → IsCancelledAbove h w l
parted h lawful v w cv cw l close cancel =
    let T = facts h w in
    let by = decided_by T l Cancel cancel in
    let found = any_gives (λ (f : Fact). is_decision by.0 Cancel f.body) T by.2 in
    let e = counted_entry h w found.0 found.1 in
    record {
      above = by.0;
      chained = by.1;
      proper = λ same. not_itself h lawful v w cv cw l close (subst (λ (x : Id). is_decided T Cancel x ≡ true) same by.2);
      entry = e.0;
      cancels = record {
        there = e.1;
        decides = ap (λ (f : Fact). f.body) (sym e.2) ∙ decision_is by.0 Cancel found.0.body found.2;
      };
      known = subst (λ (f : Fact). In f T) e.2 found.1;
    }

-- so a root does not want Close in one closed set and Cancel in another
pub root_whole : (h : History) → IsLawful h → (v w : List ℕ) → IsClosed h v → IsClosed h w → (l : Id) → is_root (facts h v) l ≡ true → want (facts h v) l ≡ Some Close → want (facts h w) l ≡ Some Cancel → ⊥
root_whole h lawful v w cv cw l root close cancel =
    let S = facts h v in
    let p = parted h lawful v w cv cw l close cancel in
    let same = same_chain h lawful v w cv cw l (wanted_begun h lawful v cv l Close close) (wanted_begun h lawful w cw l Cancel cancel) in
    let alone : chain S l ≡ l ∷ [] = chain_root S (closed_settled h lawful v cv).whole.nested l (none_is (parent_of S l) root) in
    p.proper (only p.above (subst (λ (c : List Id). In p.above c) (sym same ∙ alone) p.chained))
  where
    only : (a : Id) → In a (l ∷ []) → a ≡ l
    only a (inl s) = s
    only a (inr m) = absurd m

-- an LRA that shows closed wants Close
closed_wants : (held : Bool) (x : Option Verdict) (e i u : Bool) → (cond held (Some (shown x e i u)) None ≡ Some Closed) ⊎ (cond held (Some (shown x e i u)) None ≡ Some FailedToClose) → x ≡ Some Close
closed_wants held x e i u (inl s) = by held x e i u s
  where
    by : (held : Bool) (x : Option Verdict) (e i u : Bool) → cond held (Some (shown x e i u)) None ≡ Some Closed → x ≡ Some Close
    by false x e i u s = absurd cc
    by true None e i u s = absurd cc
    by true (Some Close) e i u s = refl
    by true (Some Cancel) false i u s = absurd cc
    by true (Some Cancel) true i false s = absurd cc
    by true (Some Cancel) true i true s = absurd cc
closed_wants held x e i u (inr s) = by held x e i u s
  where
    by : (held : Bool) (x : Option Verdict) (e i u : Bool) → cond held (Some (shown x e i u)) None ≡ Some FailedToClose → x ≡ Some Close
    by false x e i u s = absurd cc
    by true None e i u s = absurd cc
    by true (Some Close) e i u s = refl
    by true (Some Cancel) false i u s = absurd cc
    by true (Some Cancel) true i false s = absurd cc
    by true (Some Cancel) true i true s = absurd cc

-- an LRA that shows cancelled wants Cancel
cancelled_wants : (held : Bool) (x : Option Verdict) (e i u : Bool) → (cond held (Some (shown x e i u)) None ≡ Some Cancelled) ⊎ (cond held (Some (shown x e i u)) None ≡ Some FailedToCancel) → x ≡ Some Cancel
cancelled_wants held x e i u (inl s) = by held x e i u s
  where
    by : (held : Bool) (x : Option Verdict) (e i u : Bool) → cond held (Some (shown x e i u)) None ≡ Some Cancelled → x ≡ Some Cancel
    by false x e i u s = absurd cc
    by true None e i u s = absurd cc
    by true (Some Cancel) e i u s = refl
    by true (Some Close) false i u s = absurd cc
    by true (Some Close) true false u s = absurd cc
    by true (Some Close) true true u s = absurd cc
cancelled_wants held x e i u (inr s) = by held x e i u s
  where
    by : (held : Bool) (x : Option Verdict) (e i u : Bool) → cond held (Some (shown x e i u)) None ≡ Some FailedToCancel → x ≡ Some Cancel
    by false x e i u s = absurd cc
    by true None e i u s = absurd cc
    by true (Some Cancel) e i u s = refl
    by true (Some Close) false i u s = absurd cc
    by true (Some Close) true false u s = absurd cc
    by true (Some Close) true true u s = absurd cc

-- so if an LRA is shown closed in one set and cancelled in another, an LRA further up was cancelled
pub shown_parted : (h : History) → IsLawful h → (v w : List ℕ) → IsClosed h v → IsClosed h w → (l : Id) → IsShownClosed (facts h v) l → IsShownCancelled (facts h w) l → IsCancelledAbove h w l
shown_parted h lawful v w cv cw l closed cancelled =
    parted h lawful v w cv cw l
    (closed_wants (is_held (facts h v) l) (want (facts h v) l) _ _ _ closed)
    (cancelled_wants (is_held (facts h w) l) (want (facts h w) l) _ _ _ cancelled)

-- and a root is never shown so
pub root_shown : (h : History) → IsLawful h → (v w : List ℕ) → IsClosed h v → IsClosed h w → (l : Id) → is_root (facts h v) l ≡ true → IsShownClosed (facts h v) l → IsShownCancelled (facts h w) l → ⊥
root_shown h lawful v w cv cw l root closed cancelled =
    root_whole h lawful v w cv cw l root
    (closed_wants (is_held (facts h v) l) (want (facts h v) l) _ _ _ closed)
    (cancelled_wants (is_held (facts h w) l) (want (facts h w) l) _ _ _ cancelled)
