-- a tree that is to end always goes on, until it is purged
use Rattle.std.proofs.Common.{◌≡◌, ◌⊎◌, inl, inr, ◌&&◌, ◌||◌, ◌==◌, ◌<◌, ℕ, suc, List, [], ◌∷◌, refl, sym, ap, subst, ◌∙◌, Bool, true, false, arith, Option, Some, None, is_some, nat_lt}
use mathlib.Core.Bool.{not}
use Rattle.std.specs.Option.{option_map_or}
use Rattle.state_ids.specs.Ids.{Id, last_number}
use Rattle.state_ids.specs.Fronts.{count, is_covered}
use Rattle.state_facts.specs.declared.fact.Fact.{Fact}
use Rattle.state_facts.specs.declared.refusal.Refusal.{Refusal}
use Rattle.state_facts.specs.declared.refusal.Refusal.TheVariants.{StillToForget, StillToTell}
use Rattle.state_facts.specs.Duties.{is_after_duty, is_at_end, is_forget_duty, is_root_decided, is_untold, is_untold_by, owes_after, wants_cancel}
use Rattle.state_facts.specs.Links.{Links}
use Rattle.state_facts.specs.Refusals.{first, unless}
use Rattle.state_facts.specs.Sets.{chain, is_ended, is_held, is_open, is_participant, is_root, is_under, links_of, some_shows, want}
use Rattle.state_facts.proofs.Membership.{any_from}
use Rattle.state_forest.specs.declared.duties.Due.{Due}
use Rattle.state_forest.specs.Dues.{IsFirst, is_before, least_due}
use Rattle.state_forest.proofs.Bools.{and_left, and_right}
use Rattle.state_forest.proofs.CompensationUnderAnLra.{held_below}
use Rattle.state_forest.proofs.LeastDutyUnderARoot.{IsDueBeneath, TellsOf, least_first, told_is}
use Rattle.state_forest.proofs.Paths.{under_home}
use Rattle.state_facts.specs.declared.command.Command.TheVariants.{Purge}
use Rattle.theory_history.specs.Growth.{IsSettled}
use Rattle.theory_history.specs.Replies.{Accepted, judge, judged}
use Rattle.theory_history.specs.Views.{IsCounted}
use Rattle.theory_history.proofs.Basics.{both_true, equal_itself}
use Rattle.wire_callbacks.specs.declared.duty.Duty.{Duty}
use Rattle.wire_callbacks.specs.declared.answer.Kind.{Kind}
use Rattle.wire_callbacks.specs.declared.answer.Kind.TheVariants.{After, Forget}
use Rattle.wire_callbacks.proofs.DutiesMade.{IsCalled, to_forget, to_hear}
use Rattle.theory_progress.specs.Calls.{IsActUnder, IsCallUnder}
use Rattle.theory_progress.proofs.EndsAccepted.{held_covered, number_free}
use Rattle.theory_progress.proofs.UnderWay.{ended_under, open_calls, root_alone, some_is, under_in}

clash : (b : Bool) → b ≡ true → b ≡ false → ⊥
clash b e f = let wrong : true ≡ false = sym e ∙ f in cc

-- the least participant that is due is due
least_due_is : (due : List Fact → Id → ℕ → Bool) (S : List Fact) (l : Id) (x : Due) → least_due due S S l ≡ Some x → IsDueBeneath due S l x
least_due_is due S l x e = by (least_due due S S l) e (least_first due S l S)
  where
    by : (o : Option Due) → o ≡ Some x → IsFirst (TellsOf due S l S) is_before o → IsDueBeneath due S l x
    by None e least = absurd cc
    by (Some y) e least =
        let same : y ≡ x = cc in
        told_is due S l least.0.0.body x (least.0.2 ∙ ap (λ (z : Due). Some z) same)

-- a participant of the tree is called
called_under : (S : List Fact) (root d : Id) (kind : Kind) → is_under S root d ≡ true → IsCalled root.home S d kind → (call : Duty) × IsCallUnder S root call
called_under S root d kind under is = (is.call, record { duty = is.duty; under = ap (is_under S root) is.lra ∙ under })

home_of : (S : List Fact) (root d : Id) → IsSettled S → is_under S root d ≡ true → d.home ≡ root.home
home_of S root d settled under = under_home S settled.whole.nested root (suc d.num) d (omega arith) under

held_of : (S : List Fact) (root d : Id) → IsSettled S → is_held S root ≡ true → is_under S root d ≡ true → is_held S d ≡ true
held_of S root d settled held under = held_below S settled.whole root held (suc d.num) d (omega arith) under

-- under an ended root, a participant that was not told of the end is to be told now
at_end : (S : List Fact) (root d : Id) → IsSettled S → is_root S root ≡ true → is_ended S root ≡ true → is_under S root d ≡ true → is_at_end S d ≡ true
at_end S root d settled top ended under =
    let decided : is_root_decided S d ≡ true =
    any_from (λ (a : Id). is_root S a && is_some (want S a)) (chain S d) root (under_in S root d under) (both_true (is_root S root) _ top (and_left (is_some (want S root)) _ ended)) in
    both_true (is_ended S d) _ (ended_under S root d settled under ended) (right (wants_cancel (want S d)) (is_root_decided S d) decided)
  where
    right : (a b : Bool) → b ≡ true → (a || b) ≡ true
    right true b e = refl
    right false b e = e

untold_now : (S : List Fact) (root : Id) (x : Due) → IsSettled S → is_root S root ≡ true → is_ended S root ≡ true → IsDueBeneath is_untold S root x → IsDueBeneath is_after_duty S root x
untold_now S root x settled top ended due =
    record {
      under = due.under;
      owed = by (links_of S x.lra x.member) refl (and_right (is_participant S x.lra x.member) _ due.owed);
    }
  where
    end : is_at_end S x.lra ≡ true
    end = at_end S root x.lra settled top ended due.under

    by : (o : Option Links) → links_of S x.lra x.member ≡ o → option_map_or (is_untold_by S x.lra x.member) (links_of S x.lra x.member) false ≡ true → is_after_duty S x.lra x.member ≡ true
    by None at e = absurd (clash (option_map_or (is_untold_by S x.lra x.member) (links_of S x.lra x.member) false) e (ap (λ o. option_map_or (is_untold_by S x.lra x.member) o false) at))
    by (Some links) at e =
        let untold : is_untold_by S x.lra x.member links ≡ true = sym (ap (λ o. option_map_or (is_untold_by S x.lra x.member) o false) at) ∙ e in
        both_true (is_participant S x.lra x.member) _ (and_left (is_participant S x.lra x.member) _ due.owed)
        (ap (λ o. option_map_or (owes_after S x.lra x.member) o false) at ∙ both_true (is_at_end S x.lra) _ end untold)

judged_so : (a b c d e n : Bool) (forget untold : Option Due) (p q r s t u : Refusal) → a ≡ true → b ≡ true → c ≡ true → d ≡ true → e ≡ true → n ≡ true → forget ≡ None → untold ≡ None
    → judged (first (unless a p ∷ unless b q ∷ unless c r ∷ unless d s ∷ unless e t ∷ option_map_or (λ due. Some (StillToForget due.lra due.member)) forget None ∷ option_map_or (λ due. Some (StillToTell due.lra due.member)) untold None ∷ [])) false (unless n u) ≡ Accepted
judged_so a b c d e n forget untold p q r s t u ea eb ec ed ee en ef eu = rw (ea, eb, ec, ed, ee, en, ef, eu) refl

-- if no participant is to forget or to hear of the end, the root can be purged
purged : (S : List Fact) (v : List ℕ) (root : Id) → IsCounted S v → is_held S root ≡ true → is_root S root ≡ true → is_ended S root ≡ true → count v root.home < last_number → least_due is_forget_duty S S root ≡ None → least_due is_untold S S root ≡ None → judge S v root.home (Purge root) ≡ Accepted
purged S v root counted held top ended free forget untold =
    judged_so (is_covered v root) (is_held S root) (root.home == root.home) (is_root S root) (is_ended S root) (nat_lt (count v root.home) last_number) (least_due is_forget_duty S S root) (least_due is_untold S S root) _ _ _ _ _ _
    (held_covered S v root counted held) held (equal_itself root.home) top ended (number_free v root.home free) forget untold

ended_on : (S : List Fact) (v : List ℕ) (root : Id) → IsSettled S → IsCounted S v → is_held S root ≡ true → is_root S root ≡ true → is_some (want S root) ≡ true → count v root.home < last_number → is_ended S root ≡ true → ((call : Duty) × IsCallUnder S root call) ⊎ (judge S v root.home (Purge root) ≡ Accepted)
ended_on S v root settled counted held top wants free ended = by (least_due is_forget_duty S S root) refl (least_due is_untold S S root) refl
  where
    by : (o : Option Due) → least_due is_forget_duty S S root ≡ o → (p : Option Due) → least_due is_untold S S root ≡ p → ((call : Duty) × IsCallUnder S root call) ⊎ (judge S v root.home (Purge root) ≡ Accepted)
    by (Some x) e p f =
        let due = least_due_is is_forget_duty S root x e in
        inl (called_under S root x.lra Forget due.under (to_forget root.home S x.lra x.member (home_of S root x.lra settled due.under) (held_of S root x.lra settled held due.under) due.owed))
    by None e (Some x) f =
        let due = least_due_is is_untold S root x f in
        let now = untold_now S root x settled top ended due in
        inl (called_under S root x.lra After due.under (to_hear root.home S x.lra x.member (home_of S root x.lra settled due.under) (held_of S root x.lra settled held due.under) now.owed))
    by None e None f = inr (purged S v root counted held top ended free e f)

pub goes_on : (S : List Fact) (v : List ℕ) (root : Id) → IsSettled S → IsCounted S v → is_held S root ≡ true → is_root S root ≡ true → is_some (want S root) ≡ true → count v root.home < last_number → ((call : Duty) × IsCallUnder S root call) ⊎ (judge S v root.home (Purge root) ≡ Accepted)
goes_on S v root settled counted held top wants free = by (some_shows is_open S root) refl
  where
    by : (b : Bool) → some_shows is_open S root ≡ b → ((call : Duty) × IsCallUnder S root call) ⊎ (judge S v root.home (Purge root) ≡ Accepted)
    by true opened =
        let wanted = some_is (want S root) wants in
        let made = open_calls S root wanted.0 settled held wanted.1 opened in
        let here : IsActUnder S root made.0 = subst (λ (a : Id). IsActUnder S a made.0) (root_alone S root settled top) made.1 in
        inl (made.0, record { duty = here.duty; under = here.under })
    by false shut = ended_on S v root settled counted held top wants free (both_true (is_some (want S root)) _ wants (ap not shut))
