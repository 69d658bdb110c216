-- one answer after another, each to a call that is due, leads to a state in which the root can be
-- purged
use Rattle.std.proofs.Common.{◌≡◌, ◌⊎◌, inl, inr, ◌||◌, ◌≤◌, ◌<◌, ◌+◌, ℕ, zero, suc, List, [], ◌∷◌, refl, sym, ap, subst, ◌∙◌, Bool, true, false, arith, Some, is_some, nat_lt}
use mathlib.Core.Bool.{not}
use Rattle.state_ids.specs.Ids.{Id, last_number, same_id}
use Rattle.state_ids.specs.Fronts.{count, is_covered}
use Rattle.state_ids.specs.declared.outcome.Act.{Act}
use Rattle.state_ids.specs.declared.outcome.Outcome.TheVariants.{Done}
use Rattle.state_ids.specs.declared.outcome.Verdict.{Verdict}
use Rattle.state_facts.specs.declared.fact.Fact.{Fact}
use Rattle.state_facts.specs.declared.refusal.Refusal.{Refusal}
use Rattle.state_facts.specs.Duties.{has_forgot, has_told, is_after_duty, is_forget_duty, is_forgot, is_told_of}
use Rattle.state_facts.specs.Refusals.{first, unless}
use Rattle.state_facts.specs.Sets.{is_held, is_participant, is_root, want}
use Rattle.state_facts.proofs.Membership.{any_from}
use Rattle.state_forest.proofs.Bools.{and_left}
use Rattle.state_forest.proofs.NumberedMembers.{same_self}
use Rattle.state_facts.specs.declared.command.Command.TheVariants.{Forgot, Purge, Report, Told}
use Rattle.theory_history.specs.Growth.{IsMore, IsSettled}
use Rattle.theory_history.specs.NodeViews.{IsCurrent}
use Rattle.theory_history.specs.Replies.{Accepted, body_for, judge, judged}
use Rattle.theory_history.specs.Views.{IsCounted}
use Rattle.theory_history.proofs.Basics.{both_true, equal_itself, held_begun}
use Rattle.theory_history.proofs.ClosedSets.{closed_counted, closed_settled}
use Rattle.theory_history.proofs.LeftAsItWas.{held_kept, in_more_new}
use Rattle.wire_callbacks.specs.declared.answer.Kind.{Kind}
use Rattle.wire_callbacks.specs.declared.answer.Kind.TheVariants.{Complete, Compensate, Status, Forget, After}
use Rattle.wire_callbacks.specs.declared.duty.Duty.{Duty}
use Rattle.wire_callbacks.specs.CallDuties.{is_owed}
use Rattle.script_world.specs.declared.event.Event.TheVariants.{Act as Acting}
use Rattle.script_world.specs.declared.event.EventReply.TheVariants.{Answered}
use Rattle.script_world.specs.Headline.{IsNode}
use Rattle.script_world.specs.Worlds.{IsWorld, State, front_of, reply_at, set_of}
use Rattle.theory_progress.specs.Calls.{IsCallUnder, answers_left, asks_to_act, is_answered}
use Rattle.theory_progress.specs.Ends.{AreAnswers, CanPurge, GetsAnswered, IsAnswer, answer_to}
use Rattle.theory_progress.proofs.AnswersInTheWorld.{IsDecidedAt, decided_later, less_later}
use Rattle.theory_progress.proofs.AnswersLeft.{after_known, forget_known, owed_after, owed_forget, uncalled}
use Rattle.theory_progress.proofs.EndsAccepted.{end_accepted, held_covered, number_free}
use Rattle.theory_progress.proofs.Entering.{HasEntered, entering}
use Rattle.theory_progress.proofs.ReportsEnd.{heard_done}
use Rattle.theory_progress.proofs.UntilPurged.{goes_on}

judged_so : (a b c d e n : Bool) (p q r s t : Refusal) → a ≡ true → b ≡ true → c ≡ true → d ≡ true → e ≡ false → n ≡ true → judged (first (unless a p ∷ unless b q ∷ unless c r ∷ unless (d || e) s ∷ [])) e (unless n t) ≡ Accepted
judged_so a b c d e n p q r s t ea eb ec ed ee en = rw (ea, eb, ec, ed, ee, en) refl

-- the answer is accepted
accepted : (S : List Fact) (v : List ℕ) (node : ℕ) (root : Id) (call : Duty) → IsCounted S v → IsCallUnder S root call → count v node < last_number → judge S v node (answer_to call.kind call.id call.member call.act) ≡ Accepted
accepted S v node root call counted due free = by call.kind refl
  where
    act : asks_to_act call.kind ≡ true → judge S v node (Report call.id call.member call.act Done) ≡ Accepted
    act asks = end_accepted S v node root call Done counted (record { duty = due.duty; under = due.under; asks = asks }) refl free

    here : is_covered v call.id ≡ true
    here = held_covered S v call.id counted due.duty.held

    owed : (k : Kind) → call.kind ≡ k → is_owed S k call.act call.id call.member ≡ true
    owed k e = ap (λ (x : Kind). is_owed S x call.act call.id call.member) (sym e) ∙ due.duty.owed

    so : (k : Kind) → call.kind ≡ k → judge S v node (answer_to k call.id call.member call.act) ≡ Accepted → judge S v node (answer_to call.kind call.id call.member call.act) ≡ Accepted
    so k e h = ap (λ (x : Kind). judge S v node (answer_to x call.id call.member call.act)) e ∙ h

    by : (k : Kind) → call.kind ≡ k → judge S v node (answer_to call.kind call.id call.member call.act) ≡ Accepted
    by Complete e = so Complete e (act (ap asks_to_act e))
    by Compensate e = so Compensate e (act (ap asks_to_act e))
    by Status e = so Status e (act (ap asks_to_act e))
    by Forget e =
        let is = owed_forget S call.act call.id call.member (owed Forget e) in
        so Forget e
        (judged_so (is_covered v call.id) (is_held S call.id) (is_participant S call.id call.member) (is_forget_duty S call.id call.member) (has_forgot S call.id call.member) (nat_lt (count v node) last_number) _ _ _ _ _
        here due.duty.held (and_left (is_participant S call.id call.member) _ is) is (forget_known S call.id call.member is) (number_free v node free))
    by After e =
        let is = owed_after S call.act call.id call.member (owed After e) in
        so After e
        (judged_so (is_covered v call.id) (is_held S call.id) (is_participant S call.id call.member) (is_after_duty S call.id call.member) (has_told S call.id call.member) (nat_lt (count v node) last_number) _ _ _ _ _
        here due.duty.held (and_left (is_participant S call.id call.member) _ is) is (after_known S call.id call.member is) (number_free v node free))

-- then the call has its answer, and the root is still held
known : (k : Kind) (node num : ℕ) (l : Id) (m : ℕ) (act : Act) (S T : List Fact) → IsMore (record { origin = node; num = num; body = body_for S (answer_to k l m act) }) S T → is_answered k T l m act ≡ true
known Complete node num l m act S T more = ap not (heard_done node num l m act S T more)
known Compensate node num l m act S T more = ap not (heard_done node num l m act S T more)
known Status node num l m act S T more = ap not (heard_done node num l m act S T more)
known Forget node num l m act S T more =
    any_from (λ (f : Fact). is_forgot l m f.body) T (record { origin = node; num = num; body = body_for S (Forgot l m) }) (in_more_new _ S T more) (both_true (same_id l l) _ (same_self l) (equal_itself m))
known After node num l m act S T more =
    any_from (λ (f : Fact). is_told_of l m f.body) T (record { origin = node; num = num; body = body_for S (Told l m) }) (in_more_new _ S T more) (both_true (same_id l l) _ (same_self l) (equal_itself m))

held_still : (k : Kind) (node num : ℕ) (l : Id) (m : ℕ) (act : Act) (S T : List Fact) (root : Id) → IsMore (record { origin = node; num = num; body = body_for S (answer_to k l m act) }) S T → IsSettled S → is_held S root ≡ true → is_held T root ≡ true
held_still Complete node num l m act S T root more settled held = held_kept _ S T more settled.whole refl root (held_begun S root held) ∙ held
held_still Compensate node num l m act S T root more settled held = held_kept _ S T more settled.whole refl root (held_begun S root held) ∙ held
held_still Status node num l m act S T root more settled held = held_kept _ S T more settled.whole refl root (held_begun S root held) ∙ held
held_still Forget node num l m act S T root more settled held = held_kept _ S T more settled.whole refl root (held_begun S root held) ∙ held
held_still After node num l m act S T root more settled held = held_kept _ S T more settled.whole refl root (held_begun S root held) ∙ held

-- One answer after another

-- a root that is decided and held can be purged after n answers
abbrev Purges : ℕ → ℕ → Id → Verdict → Type 0
Purges n node root verdict =
    (s : State) → IsDecidedAt s node root verdict → is_held (set_of s node) root ≡ true → answers_left (set_of s node) root ≤ n → count (front_of s node) node + n < last_number → CanPurge s node root n

at_once : (s : State) (node : ℕ) (root : Id) (most : ℕ) → judge (set_of s node) (front_of s node) node (Purge root) ≡ Accepted → CanPurge s node root most
at_once s node root most taken = record { events = []; replies = []; state = s; runs = refl; answers = tt; few = omega arith; accepted = taken }

one_before : (s : State) (node : ℕ) (root : Id) (call : Duty) (n : ℕ) → IsAnswer s node root (answer_to call.kind call.id call.member call.act) → (made : HasEntered s node (answer_to call.kind call.id call.member call.act)) → CanPurge made.state node root n → CanPurge s node root (suc n)
one_before s node root call n is made rest =
    record {
      events = Acting node (answer_to call.kind call.id call.member call.act) ∷ rest.events;
      replies = Answered (reply_at s node (answer_to call.kind call.id call.member call.act)) ∷ rest.replies;
      state = rest.state;
      runs = (made.state, made.steps, rest.runs);
      answers = (answer_to call.kind call.id call.member call.act, refl, is, subst (λ (u : State). AreAnswers node root u rest.events) made.is rest.answers);
      few = omega (arith, rest.few);
      accepted = rest.accepted;
    }

module _ (root : Id) (verdict : Verdict) (s : State) (at : IsDecidedAt s root.home root verdict) (held : is_held (set_of s root.home) root ≡ true) where
  current : IsCurrent s.history root.home (front_of s root.home)
  current = at.world.current root.home at.there.some at.there.there

  settled : IsSettled (set_of s root.home)
  settled = closed_settled s.history at.world.lawful (front_of s root.home) current.closed

  counted : IsCounted (set_of s root.home) (front_of s root.home)
  counted = closed_counted s.history (front_of s root.home) current.closed

  on : count (front_of s root.home) root.home < last_number → ((call : Duty) × IsCallUnder (set_of s root.home) root call) ⊎ (judge (set_of s root.home) (front_of s root.home) root.home (Purge root) ≡ Accepted)
  on free = goes_on (set_of s root.home) (front_of s root.home) root settled counted held at.top (ap is_some at.wants) free

  none_left : answers_left (set_of s root.home) root ≤ 0 → count (front_of s root.home) root.home < last_number → CanPurge s root.home root 0
  none_left few free = by (on free)
    where
      by : ((call : Duty) × IsCallUnder (set_of s root.home) root call) ⊎ (judge (set_of s root.home) (front_of s root.home) root.home (Purge root) ≡ Accepted) → CanPurge s root.home root 0
      by (inl call) = absurd (uncalled (set_of s root.home) root call.0 settled (omega (arith, few)) call.1)
      by (inr taken) = at_once s root.home root 0 taken

  some_left : (n : ℕ) → Purges n root.home root verdict → answers_left (set_of s root.home) root ≤ suc n → count (front_of s root.home) root.home + suc n < last_number → CanPurge s root.home root (suc n)
  some_left n rest few free = by (on (omega (arith, free)))
    where
      next : (call : Duty) → IsCallUnder (set_of s root.home) root call → CanPurge s root.home root (suc n)
      next call due =
          let taken = accepted (set_of s root.home) (front_of s root.home) root.home root call counted due (omega (arith, free)) in
          let made = entering s root.home (answer_to call.kind call.id call.member call.act) at.world at.there taken in
          let t = made.state in
          let num = count (front_of s root.home) root.home + 1 in
          let answered = known call.kind root.home num call.id call.member call.act (set_of s root.home) (set_of t root.home) made.more in
          let fewer = less_later s t root.home root verdict at made.kept (record { call = call; due = due; answered = answered }) in
          one_before s root.home root call n (record { call = call; due = due; answers = refl; taken = taken }) made
          (rest t (decided_later s t root.home root verdict at made.kept)
          (held_still call.kind root.home num call.id call.member call.act (set_of s root.home) (set_of t root.home) root made.more settled held)
          (omega (arith, fewer, few)) (omega (arith, made.counts, free)))

      by : ((call : Duty) × IsCallUnder (set_of s root.home) root call) ⊎ (judge (set_of s root.home) (front_of s root.home) root.home (Purge root) ≡ Accepted) → CanPurge s root.home root (suc n)
      by (inl call) = next call.0 call.1
      by (inr taken) = at_once s root.home root (suc n) taken

purges_by : (n : ℕ) (root : Id) (verdict : Verdict) → Purges n root.home root verdict
purges_by zero root verdict = λ s at held few free. none_left root verdict s at held few (omega (arith, free))
purges_by (suc n) root verdict = λ s at held few free. some_left root verdict s at held n (purges_by n root verdict) few free

pub can_purge : (s : State) (root : Id) (verdict : Verdict) → IsWorld s → IsNode s root.home → is_held (set_of s root.home) root ≡ true → is_root (set_of s root.home) root ≡ true → want (set_of s root.home) root ≡ Some verdict
    → count (front_of s root.home) root.home + answers_left (set_of s root.home) root < last_number → CanPurge s root.home root (answers_left (set_of s root.home) root)
can_purge s root verdict world is held top wants free =
    purges_by (answers_left (set_of s root.home) root) root verdict s (record { world = world; there = is; top = top; wants = wants }) held (omega arith) free

-- and one more answer can come, if somebody is to be called
pub can_answer : (s : State) (node : ℕ) (root : Id) (call : Duty) → IsWorld s → IsNode s node → IsCallUnder (set_of s node) root call → count (front_of s node) node < last_number → (t : State) × GetsAnswered node root s t
can_answer s node root call world is due free =
    let c = answer_to call.kind call.id call.member call.act in
    let taken = accepted (set_of s node) (front_of s node) node root call (closed_counted s.history (front_of s node) (world.current node is.some is.there).closed) due free in
    let made = entering s node c world is taken in
    let answered = known call.kind node (count (front_of s node) node + 1) call.id call.member call.act (set_of s node) (set_of made.state node) made.more in (
      made.state,
      record {
        events = Acting node c ∷ [];
        replies = Answered (reply_at s node c) ∷ [];
        runs = (made.state, made.steps, refl);
        hears = record { call = call; due = due; answered = answered };
      },
    )
