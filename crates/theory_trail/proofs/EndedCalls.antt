-- Only its answer, a cancel or a purge ends a call that was due.
use Rattle.std.proofs.Common.{◌≡◌, ◌⊎◌, inl, inr, ◌≤◌, ◌&&◌, ℕ, suc, List, [], ◌∷◌, refl, sym, ap, subst, ◌∙◌, Bool, true, false, cond, arith, Option, Some, None, is_none}
use mathlib.Core.Bool.{not}
use Rattle.std.specs.List.{list_any}
use Rattle.std.specs.Option.{option_map_or}
use Rattle.state_ids.specs.Ids.{Id, same_id}
use Rattle.state_ids.specs.States.{greater, level}
use Rattle.state_ids.specs.declared.outcome.Act.{Act}
use Rattle.state_ids.specs.declared.outcome.Act.TheVariants.{Complete as CompleteAct, Compensate as CompensateAct}
use Rattle.state_ids.specs.declared.outcome.Outcome.{Outcome}
use Rattle.state_ids.specs.declared.outcome.Outcome.TheVariants.{Busy, Done, Failed}
use Rattle.state_ids.specs.declared.outcome.Verdict.TheVariants.{Close, Cancel}
use Rattle.state_facts.specs.declared.fact.Body.{Body}
use Rattle.state_facts.specs.declared.fact.Body.TheVariants.{Begin, Decide, Forgot, Join, Leave, Purge, Report, Told}
use Rattle.state_facts.specs.declared.fact.Fact.{Fact}
use Rattle.state_facts.specs.Duties.{has_forgot, has_to_compensate, has_told, holds_back, is_after_duty, is_at_end, is_compensation_due, is_forget_duty, is_forgot, is_over, is_pending, is_told_of, is_uncompensated, last_that, owes_after, owes_forget, saga_path, topmost_cancelled}
use Rattle.state_facts.specs.Links.{Links}
use Rattle.state_facts.specs.Lists.{In}
use Rattle.state_facts.specs.Sets.{chain, heard, is_begun, is_decided, is_decision, is_demanded, is_held, is_participant, is_purge, is_purged_root, is_root, links_of, reported}
use Rattle.state_facts.proofs.Heard.{level_heard}
use Rattle.state_facts.proofs.Membership.{any_from, any_gives, any_inside, most_bounds}
use Rattle.state_forest.specs.Dues.{is_complete_duty}
use Rattle.state_forest.proofs.Bools.{and_left, and_right, not_false}
use Rattle.state_forest.proofs.NumberedMembers.{same_is}
use Rattle.state_forest.proofs.SagaOrder.{top_is}
use Rattle.theory_history.specs.Histories.{History, facts}
use Rattle.theory_history.proofs.Basics.{both_true, false_from, held_begun}
use Rattle.theory_history.proofs.Decisions.{parent_both}
use Rattle.theory_history.proofs.RanksRise.{IsGrown, begun_later, kept_chain}
use Rattle.theory_history.proofs.SameChains.{along_chain}
use Rattle.wire_callbacks.specs.declared.answer.Kind.{Kind}
use Rattle.wire_callbacks.specs.declared.answer.Kind.TheVariants.{Complete, Compensate, Status, Forget, After}
use Rattle.wire_callbacks.specs.declared.duty.Duty.{Duty}
use Rattle.wire_callbacks.specs.CallDuties.{IsDuty, is_owed}
use Rattle.theory_progress.specs.Calls.{asks_to_act, is_answered}
use Rattle.theory_trail.specs.LastingCalls.{Answered, IsEnded, IsKept, IsOvertaken, IsStillDue, Overtaken, Purged, StillDue, answers, ends_call}
use Rattle.theory_progress.proofs.LaterSets.{clash, in_under, inside, pending_before, settled, settled_later}

-- What was heard of an act

greater_ends : (a b : Option Outcome) → is_pending (greater a b) ≡ false → (is_pending a ≡ false) ⊎ (is_pending b ≡ false)
greater_ends None b e = inr e
greater_ends (Some Busy) None e = inl e
greater_ends (Some Busy) (Some b) e = inr e
greater_ends (Some Done) b e = inl refl
greater_ends (Some Failed) b e = inl refl

-- the end of an act was reported
heard_end : (S : List Fact) (l : Id) (m : ℕ) (act : Act) → is_pending (heard S l m act) ≡ false → (f : Fact) × In f S × (is_pending (reported l m act f.body) ≡ false)
heard_end [] l m act e = absurd cc
heard_end (f ∷ S) l m act e = elim (greater_ends (reported l m act f.body) (heard S l m act) e) [
  | inl here ↦ (f, inl refl, here)
  | inr later ↦ let rest = heard_end S l m act later in (rest.0, inr rest.1, rest.2)
]

-- so it is heard
pub reported_heard : (S : List Fact) (l : Id) (m : ℕ) (act : Act) (f : Fact) → In f S → is_pending (reported l m act f.body) ≡ false → is_pending (heard S l m act) ≡ false
reported_heard S l m act f i e =
    let bound = most_bounds (λ (g : Fact). level (reported l m act g.body)) S f i in
    let le : level (reported l m act f.body) ≤ level (heard S l m act) = omega (arith, bound, level_heard S l m act) in
    false_from (is_pending (heard S l m act)) (λ pending. clash (is_pending (reported l m act f.body)) (pending_before (reported l m act f.body) (heard S l m act) le pending) e)

-- What was due was not answered

compensation_pending : (S : List Fact) (l : Id) (m : ℕ) → is_compensation_due S l m ≡ true → is_pending (heard S l m CompensateAct) ≡ true
compensation_pending S l m due = by (topmost_cancelled S l) due
  where
    joined : (k : Option Links) → option_map_or (λ links. has_to_compensate links (heard S l m CompensateAct)) k false ≡ true → is_pending (heard S l m CompensateAct) ≡ true
    joined None e = absurd cc
    joined (Some links) e = and_right _ _ e

    by : (o : Option Id) → option_map_or (λ a. is_participant S l m && (is_uncompensated S l m && not (list_any (λ f. holds_back S a (saga_path S l m) f.body) S))) o false ≡ true → is_pending (heard S l m CompensateAct) ≡ true
    by None e = absurd cc
    by (Some a) e = joined (links_of S l m) (and_left (is_uncompensated S l m) _ (and_right (is_participant S l m) _ e))

complete_pending : (S : List Fact) (l : Id) (m : ℕ) → is_complete_duty S l m ≡ true → is_pending (heard S l m CompleteAct) ≡ true
complete_pending S l m due = and_right (is_demanded S l m CompleteAct) _ (and_right (is_participant S l m) _ due)

forget_untold : (S : List Fact) (l : Id) (m : ℕ) → is_forget_duty S l m ≡ true → has_forgot S l m ≡ false
forget_untold S l m due = by (links_of S l m) (and_right (is_participant S l m) _ due)
  where
    by : (o : Option Links) → option_map_or (owes_forget S l m) o false ≡ true → has_forgot S l m ≡ false
    by None e = absurd cc
    by (Some links) e = not_false _ (and_left (not (has_forgot S l m)) _ (and_right _ _ (and_right (is_over S l) _ e)))

after_untold : (S : List Fact) (l : Id) (m : ℕ) → is_after_duty S l m ≡ true → has_told S l m ≡ false
after_untold S l m due = by (links_of S l m) (and_right (is_participant S l m) _ due)
  where
    by : (o : Option Links) → option_map_or (owes_after S l m) o false ≡ true → has_told S l m ≡ false
    by None e = absurd cc
    by (Some links) e = not_false _ (and_right _ _ (and_right (is_at_end S l) _ e))

-- An answer

-- an answer is neither a cancel nor a purge
no_purge : (kind : Kind) (l : Id) (m : ℕ) (act : Act) (root : Id) → answers kind l m act (Purge root) ≡ false
no_purge Complete l m act root = refl
no_purge Compensate l m act root = refl
no_purge Status l m act root = refl
no_purge Forget l m act root = refl
no_purge After l m act root = refl

no_cancel : (kind : Kind) (l : Id) (m : ℕ) (act : Act) (d : Id) → answers kind l m act (Decide d Cancel) ≡ false
no_cancel Complete l m act d = refl
no_cancel Compensate l m act d = refl
no_cancel Status l m act d = refl
no_cancel Forget l m act d = refl
no_cancel After l m act d = refl

answer_ends : (T : List Fact) (call : Duty) (body : Body) → answers call.kind call.id call.member call.act body ≡ true → ends_call T call body ≡ true
answer_ends T call (Begin parent deadline) e = e
answer_ends T call (Join l m links) e = e
answer_ends T call (Leave l m) e = e
answer_ends T call (Decide l Close) e = e
answer_ends T call (Decide l Cancel) e = clash (answers call.kind call.id call.member call.act (Decide l Cancel)) e (no_cancel call.kind call.id call.member call.act l)
answer_ends T call (Report l m act outcome) e = e
answer_ends T call (Forgot l m) e = e
answer_ends T call (Told l m) e = e
answer_ends T call (Purge root) e = clash (answers call.kind call.id call.member call.act (Purge root)) e (no_purge call.kind call.id call.member call.act root)

-- if a call that was due was answered, the answer is new
answered_since : (home : ℕ) (S T : List Fact) (call : Duty) → IsDuty home S call → is_answered call.kind T call.id call.member call.act ≡ true → IsEnded S T call
answered_since home S T call due e = record { fact = new.0; there = new.1; new = new.2; ends = answer_ends T call new.0.body new.3 }
  where
    reports : (act : Act) → is_pending (heard S call.id call.member act) ≡ true → not (is_pending (heard T call.id call.member act)) ≡ true
        → (f : Fact) × In f T × (In f S → ⊥) × (not (is_pending (reported call.id call.member act f.body)) ≡ true)
    reports act pending ends =
        let found = heard_end T call.id call.member act (not_false (is_pending (heard T call.id call.member act)) ends) in
        (found.0, found.1, (λ i. clash (is_pending (heard S call.id call.member act)) pending (reported_heard S call.id call.member act found.0 i found.2)), ap not found.2)

    by : (kind : Kind) (act : Act) → is_owed S kind act call.id call.member ≡ true → is_answered kind T call.id call.member act ≡ true
        → (f : Fact) × In f T × (In f S → ⊥) × (answers kind call.id call.member act f.body ≡ true)
    by Complete CompleteAct o k = reports CompleteAct (complete_pending S call.id call.member (and_left (is_complete_duty S call.id call.member) _ o)) k
    by Status CompleteAct o k = reports CompleteAct (complete_pending S call.id call.member (and_left (is_complete_duty S call.id call.member) _ o)) k
    by Compensate CompensateAct o k = reports CompensateAct (compensation_pending S call.id call.member (and_left (is_compensation_due S call.id call.member) _ o)) k
    by Status CompensateAct o k = reports CompensateAct (compensation_pending S call.id call.member (and_left (is_compensation_due S call.id call.member) _ o)) k
    by Complete CompensateAct o k = absurd cc
    by Compensate CompleteAct o k = absurd cc
    by Forget act o k =
        let found = any_gives (λ (f : Fact). is_forgot call.id call.member f.body) T k in (
          found.0,
          found.1,
          (λ i. clash (has_forgot S call.id call.member) (any_from (λ (f : Fact). is_forgot call.id call.member f.body) S found.0 i found.2)
              (forget_untold S call.id call.member (and_left (is_forget_duty S call.id call.member) _ o))),
          found.2,
        )
    by After act o k =
        let found = any_gives (λ (f : Fact). is_told_of call.id call.member f.body) T k in (
          found.0,
          found.1,
          (λ i. clash (has_told S call.id call.member) (any_from (λ (f : Fact). is_told_of call.id call.member f.body) S found.0 i found.2)
              (after_untold S call.id call.member (and_left (is_after_duty S call.id call.member) _ o))),
          found.2,
        )

    new : (f : Fact) × In f T × (In f S → ⊥) × (answers call.kind call.id call.member call.act f.body ≡ true)
    new = by call.kind call.act due.owed e

-- A purge and a cancel

purge_is : (a : Id) (body : Body) → is_purge a body ≡ true → body ≡ Purge a
purge_is a (Begin parent deadline) e = absurd cc
purge_is a (Join l m links) e = absurd cc
purge_is a (Leave l m) e = absurd cc
purge_is a (Decide l verdict) e = absurd cc
purge_is a (Report l m act outcome) e = absurd cc
purge_is a (Forgot l m) e = absurd cc
purge_is a (Told l m) e = absurd cc
purge_is a (Purge root) e = ap (λ (x : Id). Purge x) (same_is root a e)

cancel_is : (a : Id) (body : Body) → is_decision a Cancel body ≡ true → body ≡ Decide a Cancel
cancel_is a (Begin parent deadline) e = absurd cc
cancel_is a (Join l m links) e = absurd cc
cancel_is a (Leave l m) e = absurd cc
cancel_is a (Decide l Close) e = absurd (let wrong : false ≡ true = and_right (same_id l a) _ e in cc)
cancel_is a (Decide l Cancel) e = ap (λ (x : Id). Decide x Cancel) (same_is l a (and_left (same_id l a) _ e))
cancel_is a (Report l m act outcome) e = absurd cc
cancel_is a (Forgot l m) e = absurd cc
cancel_is a (Told l m) e = absurd cc
cancel_is a (Purge root) e = absurd cc

-- if no element passes a test, none passes a stricter one
none_too : (p q : Id → Bool) (xs : List Id) → ((x : Id) → q x ≡ true → p x ≡ true) → last_that p xs ≡ None → last_that q xs ≡ None
none_too p q [] less e = refl
none_too p q (x ∷ xs) less e = by (last_that p xs) refl (none_too p q xs less) (p x) refl e
  where
    fails : (b : Bool) → p x ≡ false → q x ≡ b → cond b (Some x) None ≡ None
    fails true never passes = clash (p x) (less x passes) never
    fails false never passes = refl

    by : (o : Option Id) → last_that p xs ≡ o → (last_that p xs ≡ None → last_that q xs ≡ None) → (b : Bool) → p x ≡ b → option_map_or (λ y. Some y) o (cond b (Some x) None) ≡ None → last_that q (x ∷ xs) ≡ None
    by (Some y) at rest b is e = absurd cc
    by None at rest true is e = absurd cc
    by None at rest false is e = ap (λ (o : Option Id). option_map_or (λ y. Some y) o (cond (q x) (Some x) None)) (rest at) ∙ fails (q x) is refl

-- the last element that passes a test is the last that passes a stricter one, if it passes that
last_too : (p q : Id → Bool) (xs : List Id) (a : Id) → ((x : Id) → q x ≡ true → p x ≡ true) → last_that p xs ≡ Some a → q a ≡ true → last_that q xs ≡ Some a
last_too p q [] a less e passes = absurd cc
last_too p q (x ∷ xs) a less e passes = by (last_that p xs) refl (last_too p q xs a less) (none_too p q xs less) (p x) e
  where
    by : (o : Option Id) → last_that p xs ≡ o → (last_that p xs ≡ Some a → q a ≡ true → last_that q xs ≡ Some a) → (last_that p xs ≡ None → last_that q xs ≡ None) → (b : Bool)
        → option_map_or (λ y. Some y) o (cond b (Some x) None) ≡ Some a → last_that q (x ∷ xs) ≡ Some a
    by (Some y) at rest none b e = ap (λ (o : Option Id). option_map_or (λ y. Some y) o (cond (q x) (Some x) None)) (rest (at ∙ e) passes)
    by None at rest none true e =
        let same : x ≡ a = cc in
        ap (λ (o : Option Id). option_map_or (λ y. Some y) o (cond (q x) (Some x) None)) (none at) ∙ ap (λ (b : Bool). cond b (Some x) None) (ap q same ∙ passes) ∙ ap (λ (y : Id). Some y) same
    by None at rest none false e = absurd cc

-- a purge of an LRA of the chain is in T, and not in S
pub record IsPurgedBy (S T : List Fact) (l : Id) : Type 0 where
  pub fact : Fact
  pub there : In fact T
  pub new : In fact S → ⊥
  pub root : Id
  pub body : fact.body ≡ Purge root
  pub chained : In root (chain T l)

-- an LRA that was held and no longer is was purged since
pub purge_since : (h : History) (v w : List ℕ) → IsGrown h v w → (l : Id) → is_held (facts h v) l ≡ true → is_held (facts h w) l ≡ false → IsPurgedBy (facts h v) (facts h w) l
purge_since h v w g l held gone =
    let S = facts h v in
    let T = facts h w in
    let begun = held_begun S l held in
    let purged : list_any (is_purged_root T) (chain T l) ≡ true = lost (is_begun T l) (list_any (is_purged_root T) (chain T l)) (begun_later h v w g l begun) gone in
    let root = any_gives (is_purged_root T) (chain T l) purged in
    let a = root.0 in
    let found = any_gives (λ (f : Fact). is_purge a f.body) T (and_right (is_root T a) _ root.2) in
    let chained : In a (chain S l) = subst (λ (c : List Id). In a c) (sym (kept_chain h v w g l begun)) root.1 in
    let root_begun : is_begun S a ≡ true = along_chain (λ (d : Id). is_begun S d ≡ true) S (settled h v w g).whole.parents l.num l begun a chained in
    let same = parent_both h g.lawful v w g.before g.after a root_begun (begun_later h v w g a root_begun) in
    let root_before : is_root S a ≡ true = ap is_none same ∙ and_left (is_root T a) _ root.2 in
    record {
      fact = found.0;
      there = found.1;
      new = λ i. clash (list_any (is_purged_root S) (chain S l))
          (any_from (is_purged_root S) (chain S l) a chained (both_true (is_root S a) _ root_before (any_from (λ (f : Fact). is_purge a f.body) S found.0 i found.2)))
          (not_false _ (and_right (is_begun S l) _ held));
      root = a;
      body = purge_is a found.0.body found.2;
      chained = root.1;
    }
  where
    lost : (a b : Bool) → a ≡ true → (a && not b) ≡ false → b ≡ true
    lost true true e f = refl
    lost true false e f = absurd cc
    lost false b e f = absurd cc

module _ (h : History) (v w : List ℕ) (g : IsGrown h v w) (home : ℕ) (call : Duty) (due : IsDuty home (facts h v) call) where
  chain_same : chain (facts h v) call.id ≡ chain (facts h w) call.id
  chain_same = kept_chain h v w g call.id (held_begun (facts h v) call.id due.held)

  purged_since : is_held (facts h w) call.id ≡ false → IsEnded (facts h v) (facts h w) call
  purged_since gone =
      let by = purge_since h v w g call.id due.held gone in
      record { fact = by.fact; there = by.there; new = by.new; ends = ap (ends_call (facts h w) call) by.body ∙ in_under (facts h w) by.root call.id by.chained }

  cancelled_since : IsOvertaken (facts h v) (facts h w) call → IsEnded (facts h v) (facts h w) call
  cancelled_since o =
      let S = facts h v in
      let T = facts h w in
      let tops = top_is T (settled_later h v w g).whole.nested (suc call.id.num) call.id o.top (omega arith) o.cancelled in
      let decided = last_passes (is_decided T Cancel) (chain T call.id) o.top o.cancelled in
      let found = any_gives (λ (f : Fact). is_decision o.top Cancel f.body) T decided in
      record {
        fact = found.0;
        there = found.1;
        new = λ i. o.other (ap (last_that (is_decided S Cancel)) chain_same
            ∙ last_too (is_decided T Cancel) (is_decided S Cancel) (chain T call.id) o.top (λ x e. any_inside (λ (f : Fact). is_decision x Cancel f.body) S T (inside h v w g) e) o.cancelled
            (any_from (λ (f : Fact). is_decision o.top Cancel f.body) S found.0 i found.2));
        ends = ap (ends_call T call) (cancel_is o.top found.0.body found.2) ∙ both_true (asks_to_act call.kind) _ o.asks tops.under;
      }
    where
      last_passes : (t : Id → Bool) (xs : List Id) (y : Id) → last_that t xs ≡ Some y → t y ≡ true
      last_passes t [] y e = absurd cc
      last_passes t (x ∷ xs) y e = by (last_that t xs) refl (t x) refl (last_passes t xs y) e
        where
          by : (o : Option Id) → last_that t xs ≡ o → (b : Bool) → t x ≡ b → (last_that t xs ≡ Some y → t y ≡ true) → option_map_or (λ z. Some z) o (cond b (Some x) None) ≡ Some y → t y ≡ true
          by (Some z) at b is rest e = rest (at ∙ e)
          by None at true is rest e = let same : x ≡ y = cc in ap t (sym same) ∙ is
          by None at false is rest e = absurd cc

  pub due_or_ended : IsKept home (facts h v) (facts h w) call → IsStillDue home (facts h w) call ⊎ IsEnded (facts h v) (facts h w) call
  due_or_ended (StillDue still) = inl still
  due_or_ended (Answered e) = inr (answered_since home (facts h v) (facts h w) call due e)
  due_or_ended (Purged gone) = inr (purged_since gone)
  due_or_ended (Overtaken o) = inr (cancelled_since o)
