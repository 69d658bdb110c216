-- the number of answers that are still to come under an LRA
use Rattle.std.proofs.Common.{◌≡◌, filter, inl, inr, ◌≤◌, ◌<◌, ◌&&◌, ℕ, List, [], ◌∷◌, refl, sym, ap, subst, ◌∙◌, Bool, true, false, cond, arith, is_some, length, Option, Some, None}
use mathlib.Core.Bool.{not}
use Rattle.std.specs.Option.{option_map_or}
use Rattle.state_ids.specs.Ids.{Id}
use Rattle.state_ids.specs.declared.outcome.Act.{Act}
use Rattle.state_ids.specs.declared.outcome.Verdict.{Verdict}
use Rattle.state_ids.specs.declared.outcome.Verdict.TheVariants.{Close, Cancel}
use Rattle.state_facts.specs.declared.fact.Fact.{Fact}
use Rattle.state_facts.specs.Duties.{has_forgot, has_told, is_after_duty, is_at_end, is_forget_duty, is_forgot, is_over, is_pending, is_told_of, is_untold_by, owes_after, owes_forget}
use Rattle.state_facts.specs.Links.{Links}
use Rattle.state_facts.specs.Lists.{In, IsInside}
use Rattle.state_facts.specs.Sets.{heard, is_participant, is_root, is_under, links_of, want}
use Rattle.state_facts.proofs.Membership.{any_inside}
use Rattle.state_forest.proofs.Bools.{and_left, and_right, not_false}
use Rattle.theory_history.specs.Histories.{History, facts}
use Rattle.theory_history.proofs.Basics.{both_true}
use Rattle.theory_history.proofs.ClosedSets.{closed_settled, facts_inside}
use Rattle.theory_history.proofs.Decisions.{wanted_begun}
use Rattle.theory_history.proofs.Ranks.{force}
use Rattle.theory_history.proofs.RanksRise.{IsGrown, wants_more}
use Rattle.theory_history.proofs.SplitVerdicts.{root_whole}
use Rattle.theory_history.specs.Growth.{IsSettled}
use Rattle.wire_callbacks.specs.declared.answer.Kind.{Kind}
use Rattle.wire_callbacks.specs.declared.answer.Kind.TheVariants.{Complete, Compensate, Status, Forget, After}
use Rattle.wire_callbacks.specs.declared.duty.Duty.{Duty}
use Rattle.wire_callbacks.specs.CallDuties.{is_owed}
use Rattle.theory_progress.specs.Calls.{HearsAnAnswer, IsActUnder, IsCallUnder, answers_left, asks_to_act, is_answered, is_open_at, is_unreleased, joins_under}
use Rattle.theory_progress.proofs.OpenUnder.{Fades, act_falls, call_open, count_fewer, count_less, join_told, joined_as, open_stays, stayed_by, told_not}
use Rattle.theory_progress.proofs.ActsAsked.{call_asked}
use Rattle.theory_progress.proofs.UnderWay.{links_joined}

-- What a call other than to act says of its participant

pub owed_forget : (S : List Fact) (act : Act) (d : Id) (m : ℕ) → is_owed S Forget act d m ≡ true → is_forget_duty S d m ≡ true
owed_forget S act d m e = and_left (is_forget_duty S d m) _ e

pub owed_after : (S : List Fact) (act : Act) (d : Id) (m : ℕ) → is_owed S After act d m ≡ true → is_after_duty S d m ≡ true
owed_after S act d m e = and_left (is_after_duty S d m) _ e

forget_unreleased : (S : List Fact) (d : Id) (m : ℕ) (links : Links) → links_of S d m ≡ Some links → is_forget_duty S d m ≡ true → is_unreleased S d m links ≡ true
forget_unreleased S d m links joined e =
    let owes : owes_forget S d m links ≡ true = sym (ap (λ o. option_map_or (owes_forget S d m) o false) joined) ∙ and_right (is_participant S d m) _ e in
    let rest = and_right (is_over S d) _ owes in
    both_true (is_some links.forget) _ (and_left (is_some links.forget) _ rest) (and_left (not (has_forgot S d m)) _ (and_right (is_some links.forget) _ rest))

after_untold : (S : List Fact) (d : Id) (m : ℕ) (links : Links) → links_of S d m ≡ Some links → is_after_duty S d m ≡ true → is_untold_by S d m links ≡ true
after_untold S d m links joined e =
    let owes : owes_after S d m links ≡ true = sym (ap (λ o. option_map_or (owes_after S d m) o false) joined) ∙ and_right (is_participant S d m) _ e in
    and_right (is_at_end S d) _ owes

-- the participant was not told to forget before
pub forget_known : (S : List Fact) (d : Id) (m : ℕ) → is_forget_duty S d m ≡ true → has_forgot S d m ≡ false
forget_known S d m e = by (links_of S d m) (and_right (is_participant S d m) _ e)
  where
    by : (o : Option Links) → option_map_or (owes_forget S d m) o false ≡ true → has_forgot S d m ≡ false
    by None f = absurd cc
    by (Some links) f = not_false _ (and_left (not (has_forgot S d m)) _ (and_right (is_some links.forget) _ (and_right (is_over S d) _ f)))

pub after_known : (S : List Fact) (d : Id) (m : ℕ) → is_after_duty S d m ≡ true → has_told S d m ≡ false
after_known S d m e = by (links_of S d m) (and_right (is_participant S d m) _ e)
  where
    by : (o : Option Links) → option_map_or (owes_after S d m) o false ≡ true → has_told S d m ≡ false
    by None f = absurd cc
    by (Some links) f = not_false _ (and_right (is_some links.after) _ (and_right (is_at_end S d) _ f))

-- More facts

module _ (h : History) (v w : List ℕ) (g : IsGrown h v w) (l : Id) where
  inside : IsInside (facts h v) (facts h w)
  inside = facts_inside h v w g.below

  not_more : (a b : Bool) → (a ≡ true → b ≡ true) → not b ≡ true → not a ≡ true
  not_more true b f e = absurd (let holds : b ≡ true = f refl in both b holds e)
    where
      both : (b : Bool) → b ≡ true → not b ≡ true → ⊥
      both true s t = cc
      both false s t = cc
  not_more false b f e = refl

  unreleased_fades : Fades h v w is_unreleased l
  unreleased_fades = λ d m links begun under e.
      both_true (is_some links.forget) _ (and_left (is_some links.forget) _ e)
      (not_more (has_forgot (facts h v) d m) (has_forgot (facts h w) d m) (any_inside (λ (f : Fact). is_forgot d m f.body) (facts h v) (facts h w) inside) (and_right (is_some links.forget) _ e))

  untold_fades : Fades h v w is_untold_by l
  untold_fades = λ d m links begun under e.
      both_true (is_some links.after) _ (and_left (is_some links.after) _ e)
      (not_more (has_told (facts h v) d m) (has_told (facts h w) d m) (any_inside (λ (f : Fact). is_told_of d m f.body) (facts h v) (facts h w) inside) (and_right (is_some links.after) _ e))

-- a root wants the same with more facts
pub root_wants : (h : History) (v w : List ℕ) → IsGrown h v w → (root : Id) → is_root (facts h v) root ≡ true → (x : Verdict) → want (facts h v) root ≡ Some x → want (facts h w) root ≡ Some x
root_wants h v w g root top x wanted =
    settle x (want (facts h w) root) refl wanted (subst (λ (o : Option Verdict). force o ≤ force (want (facts h w) root)) wanted (wants_more h v w g root (wanted_begun h g.lawful v g.before root x wanted)))
  where
    settle : (x : Verdict) (y : Option Verdict) → want (facts h w) root ≡ y → want (facts h v) root ≡ Some x → force (Some x) ≤ force y → want (facts h w) root ≡ Some x
    settle Close None e s le = absurd (omega (arith, le))
    settle Cancel None e s le = absurd (omega (arith, le))
    settle Close (Some Close) e s le = e
    settle Cancel (Some Cancel) e s le = e
    settle Cancel (Some Close) e s le = absurd (omega (arith, le))
    settle Close (Some Cancel) e s le = absurd (root_whole h g.lawful v w g.before g.after root top s e)

module _ (h : History) (v w : List ℕ) (g : IsGrown h v w) (l : Id) (x : Verdict) (wanted : want (facts h v) l ≡ Some x) (later : want (facts h w) l ≡ Some x) where
  pub answers_stay : answers_left (facts h w) l ≤ answers_left (facts h v) l
  answers_stay =
      omega (
        arith,
        open_stays h v w g l x wanted later,
        count_fewer h v w g l x wanted later is_unreleased (unreleased_fades h v w g l),
        count_fewer h v w g l x wanted later is_untold_by (untold_fades h v w g l),
      )

  -- the count falls for a participant that was told to forget
  forget_falls : (d : Id) (m : ℕ) → is_under (facts h v) l d ≡ true → is_forget_duty (facts h v) d m ≡ true → has_forgot (facts h w) d m ≡ true → answers_left (facts h w) l < answers_left (facts h v) l
  forget_falls d m under due told =
      let S = facts h v in
      let T = facts h w in
      let known = and_left (is_participant S d m) _ due in
      let who = joined_as S d m known in
      let joined = links_joined S who.1 d m who.0 (closed_settled h g.lawful v g.before).seated who.2 who.3 in
      let fails : is_unreleased T d m who.0 ≡ false = never (is_some who.0.forget) (has_forgot T d m) told in
      omega (
        arith,
        open_stays h v w g l x wanted later,
        count_less h v w g l x wanted later is_unreleased (unreleased_fades h v w g l) who.1 who.2
            (join_told (is_unreleased S) S l d m who.0 who.1.body who.3 (record { under = under; stayed = stayed_by S d m known; passes = forget_unreleased S d m who.0 joined due }))
            (told_not (is_unreleased T) T l d m who.0 who.1.body who.3 fails),
        count_fewer h v w g l x wanted later is_untold_by (untold_fades h v w g l),
      )
    where
      never : (a b : Bool) → b ≡ true → (a && not b) ≡ false
      never true true e = refl
      never false true e = refl
      never true false e = absurd cc
      never false false e = absurd cc

  -- the count falls for a participant that was told of the end
  after_falls : (d : Id) (m : ℕ) → is_under (facts h v) l d ≡ true → is_after_duty (facts h v) d m ≡ true → has_told (facts h w) d m ≡ true → answers_left (facts h w) l < answers_left (facts h v) l
  after_falls d m under due told =
      let S = facts h v in
      let T = facts h w in
      let known = and_left (is_participant S d m) _ due in
      let who = joined_as S d m known in
      let joined = links_joined S who.1 d m who.0 (closed_settled h g.lawful v g.before).seated who.2 who.3 in
      let fails : is_untold_by T d m who.0 ≡ false = never (is_some who.0.after) (has_told T d m) told in
      omega (
        arith,
        open_stays h v w g l x wanted later,
        count_fewer h v w g l x wanted later is_unreleased (unreleased_fades h v w g l),
        count_less h v w g l x wanted later is_untold_by (untold_fades h v w g l) who.1 who.2
            (join_told (is_untold_by S) S l d m who.0 who.1.body who.3 (record { under = under; stayed = stayed_by S d m known; passes = after_untold S d m who.0 joined due }))
            (told_not (is_untold_by T) T l d m who.0 who.1.body who.3 fails),
      )
    where
      never : (a b : Bool) → b ≡ true → (a && not b) ≡ false
      never true true e = refl
      never false true e = refl
      never true false e = absurd cc
      never false false e = absurd cc

  act_answered : (call : Duty) → IsCallUnder (facts h v) l call → asks_to_act call.kind ≡ true → not (is_pending (heard (facts h w) call.id call.member call.act)) ≡ true → answers_left (facts h w) l < answers_left (facts h v) l
  act_answered call due asks ends =
      omega (
        arith,
        act_falls h v w g l x wanted later call (record { duty = due.duty; under = due.under; asks = asks }) (not_false _ ends),
        count_fewer h v w g l x wanted later is_unreleased (unreleased_fades h v w g l),
        count_fewer h v w g l x wanted later is_untold_by (untold_fades h v w g l),
      )

  pub answers_fall : HearsAnAnswer (facts h v) (facts h w) l → answers_left (facts h w) l < answers_left (facts h v) l
  answers_fall hears = by call.kind refl
    where
      call : Duty
      call = hears.call

      by : (k : Kind) → call.kind ≡ k → answers_left (facts h w) l < answers_left (facts h v) l
      by Complete e = act_answered call hears.due (ap asks_to_act e) (ap (λ (k : Kind). is_answered k (facts h w) call.id call.member call.act) (sym e) ∙ hears.answered)
      by Compensate e = act_answered call hears.due (ap asks_to_act e) (ap (λ (k : Kind). is_answered k (facts h w) call.id call.member call.act) (sym e) ∙ hears.answered)
      by Status e = act_answered call hears.due (ap asks_to_act e) (ap (λ (k : Kind). is_answered k (facts h w) call.id call.member call.act) (sym e) ∙ hears.answered)
      by Forget e =
          forget_falls call.id call.member hears.due.under
          (owed_forget (facts h v) call.act call.id call.member (ap (λ (k : Kind). is_owed (facts h v) k call.act call.id call.member) (sym e) ∙ hears.due.duty.owed))
          (ap (λ (k : Kind). is_answered k (facts h w) call.id call.member call.act) (sym e) ∙ hears.answered)
      by After e =
          after_falls call.id call.member hears.due.under
          (owed_after (facts h v) call.act call.id call.member (ap (λ (k : Kind). is_owed (facts h v) k call.act call.id call.member) (sym e) ∙ hears.due.duty.owed))
          (ap (λ (k : Kind). is_answered k (facts h w) call.id call.member call.act) (sym e) ∙ hears.answered)

-- If no answer is left, nobody is called

-- an element that passes the test makes the count at least 1
seen : {X : Type 0} (p : X → Bool) (xs : List X) (y : X) → In y xs → p y ≡ true → 1 ≤ length (filter p xs)
seen p [] y i e = absurd i
seen p (z ∷ xs) y (inl s) e = here (p z) (ap p (sym s) ∙ e)
  where
    here : (b : Bool) → b ≡ true → 1 ≤ length (cond b (z ∷ filter p xs) (filter p xs))
    here true e = omega arith
    here false e = absurd cc
seen p (z ∷ xs) y (inr i) e = there (p z) (seen p xs y i e)
  where
    there : (b : Bool) → 1 ≤ length (filter p xs) → 1 ≤ length (cond b (z ∷ filter p xs) (filter p xs))
    there true h = omega (arith, h)
    there false h = h

pub uncalled : (S : List Fact) (l : Id) (call : Duty) → IsSettled S → answers_left S l ≡ 0 → IsCallUnder S l call → ⊥
uncalled S l call settled none due = by call.kind refl
  where
    act : asks_to_act call.kind ≡ true → ⊥
    act asks =
        let is : IsActUnder S l call = record { duty = due.duty; under = due.under; asks = asks } in
        let who = joined_as S call.id call.member (call_asked S l call is).known in
        let one = seen (λ (f : Fact). joins_under (is_open_at S) S l f.body) S who.1 who.2 (call_open S l call settled is who.0 who.1 who.2 who.3) in
        omega (arith, one, none)

    forget : is_forget_duty S call.id call.member ≡ true → ⊥
    forget owed =
        let known = and_left (is_participant S call.id call.member) _ owed in
        let who = joined_as S call.id call.member known in
        let joined = links_joined S who.1 call.id call.member who.0 settled.seated who.2 who.3 in
        let one = seen (λ (f : Fact). joins_under (is_unreleased S) S l f.body) S who.1 who.2
        (join_told (is_unreleased S) S l call.id call.member who.0 who.1.body who.3 (record { under = due.under; stayed = stayed_by S call.id call.member known; passes = forget_unreleased S call.id call.member who.0 joined owed })) in
        omega (arith, one, none)

    after : is_after_duty S call.id call.member ≡ true → ⊥
    after owed =
        let known = and_left (is_participant S call.id call.member) _ owed in
        let who = joined_as S call.id call.member known in
        let joined = links_joined S who.1 call.id call.member who.0 settled.seated who.2 who.3 in
        let one = seen (λ (f : Fact). joins_under (is_untold_by S) S l f.body) S who.1 who.2
        (join_told (is_untold_by S) S l call.id call.member who.0 who.1.body who.3 (record { under = due.under; stayed = stayed_by S call.id call.member known; passes = after_untold S call.id call.member who.0 joined owed })) in
        omega (arith, one, none)

    by : (k : Kind) → call.kind ≡ k → ⊥
    by Complete e = act (ap asks_to_act e)
    by Compensate e = act (ap asks_to_act e)
    by Status e = act (ap asks_to_act e)
    by Forget e = forget (owed_forget S call.act call.id call.member (ap (λ (k : Kind). is_owed S k call.act call.id call.member) (sym e) ∙ due.duty.owed))
    by After e = after (owed_after S call.act call.id call.member (ap (λ (k : Kind). is_owed S k call.act call.id call.member) (sym e) ∙ due.duty.owed))
