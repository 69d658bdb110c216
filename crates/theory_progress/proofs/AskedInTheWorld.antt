-- what a participant is asked for at nodes of the world
use Rattle.std.proofs.Common.{◌≡◌, ◌↔◌, ℕ, List, refl, sym, ap, subst, ◌∙◌, is_none, true, false, arith, length, Some}
use Rattle.state_ids.specs.Ids.{Id}
use Rattle.state_ids.specs.declared.outcome.Act.{Act}
use Rattle.state_ids.specs.declared.outcome.Act.TheVariants.{Compensate, Complete}
use Rattle.state_ids.specs.declared.outcome.Verdict.TheVariants.{Cancel, Close}
use Rattle.state_facts.specs.declared.fact.Fact.{Fact}
use Rattle.state_facts.specs.Duties.{is_after_duty, is_forget_duty, is_pending}
use Rattle.state_facts.specs.Lists.{In}
use Rattle.state_facts.specs.Sets.{heard, is_begun, is_ended, is_root, want}
use Rattle.theory_history.specs.Growth.{IsSettled}
use Rattle.theory_history.specs.Histories.{IsClosed, facts}
use Rattle.theory_history.specs.Views.{View}
use Rattle.theory_history.proofs.Basics.{held_begun}
use Rattle.theory_history.proofs.ClosedSets.{closed_settled}
use Rattle.theory_history.proofs.Decisions.{parent_both, wanted_begun}
use Rattle.theory_history.proofs.RanksRise.{IsGrown}
use Rattle.theory_history.proofs.SplitVerdicts.{parted, root_whole}
use Rattle.wire_callbacks.specs.declared.answer.Kind.{Kind}
use Rattle.wire_callbacks.specs.declared.answer.Kind.TheVariants.{After, Forget}
use Rattle.wire_callbacks.specs.declared.duty.Duty.{Duty}
use Rattle.wire_callbacks.specs.CallDuties.{IsDuty, is_owed}
use Rattle.wire_callbacks.specs.ViewDuties.{duties_of}
use Rattle.wire_callbacks.proofs.Viewed.{all_of_view}
use Rattle.script_world.specs.declared.event.Event.{Event}
use Rattle.script_world.specs.declared.event.EventReply.{EventReply}
use Rattle.script_world.specs.Headline.{IsAncestorCancelled, IsNode}
use Rattle.script_world.specs.Worlds.{IsViewOf, IsWorld, Runs, State, front_of, set_of}
use Rattle.script_world.proofs.Moving.{IsKeptBy, run_keeps}
use Rattle.theory_progress.specs.Asked.{IsAskedFor, IsCallTo, IsCalledTo}
use Rattle.theory_progress.proofs.ActsAsked.{IsAsked}
use Rattle.theory_progress.proofs.AnswersLeft.{owed_after, owed_forget}
use Rattle.theory_progress.proofs.AskedOneWay.{after_end, asked_by, asked_cancel, asked_close, end_later, ended_unasked, forget_over, never_again, never_back, over_later}
use Rattle.theory_progress.proofs.CancelsAtHome.{cancel_at_home}
use Rattle.theory_progress.proofs.EndsInTheWorld.{earlier_set}
use Rattle.theory_progress.proofs.Hearing.{still_node}

-- A node's set

pub closed_at : (s : State) (node : ℕ) → IsWorld s → IsNode s node → IsClosed s.history (front_of s node)
closed_at s node world is = (world.current node is.some is.there).closed

pub settled_at : (s : State) (node : ℕ) → IsWorld s → IsNode s node → IsSettled (set_of s node)
settled_at s node world is = closed_settled s.history world.lawful (front_of s node) (closed_at s node world is)

-- the node's set grows
pub grown_at : (s t : State) (node : ℕ) → IsWorld s → IsKeptBy s t → IsNode s node → IsGrown t.history (front_of s node) (front_of t node)
grown_at s t node world kept is =
    record {
      lawful = kept.world.lawful;
      before = kept.grown.closed (front_of s node) (closed_at s node world is);
      after = closed_at t node kept.world (still_node s t node kept is);
      below = kept.risen node is;
    }

-- a property of the node's set is one of the earlier facts in the later history
pub as_before : (P : List Fact → Type 0) (s t : State) (node : ℕ) → IsWorld s → IsKeptBy s t → IsNode s node → P (set_of s node) → P (facts t.history (front_of s node))
as_before P s t node world kept is holds = subst P (sym (earlier_set s t node world kept is)) holds

-- Calls

pub asked_at : (s : State) (node : ℕ) (l : Id) (m : ℕ) (act : Act) → IsWorld s → IsNode s node → IsAskedFor s node l m act → IsAsked (set_of s node) l m act
asked_at s node l m act world is asked =
    subst (λ (a : Act). IsAsked (set_of s node) l m a) asked.acts
    (subst (λ (n : ℕ). IsAsked (set_of s node) l n asked.call.act) asked.due.member
    (subst (λ (d : Id). IsAsked (set_of s node) d asked.call.member asked.call.act) asked.due.lra
    (asked_by (set_of s node) l.home asked.call (settled_at s node world is) asked.due.due asked.asks)))

-- no participant of an LRA that has ended is asked to act
unasked_at : (s : State) (node : ℕ) (l : Id) (m : ℕ) (act : Act) → IsWorld s → IsNode s node → is_ended (set_of s node) l ≡ true → IsAskedFor s node l m act → ⊥
unasked_at s node l m act world is ended asked =
    ended_unasked (set_of s node) l.home asked.call (settled_at s node world is) asked.due.due asked.asks
    (subst (λ (d : Id). is_ended (set_of s node) d ≡ true) (sym asked.due.lra) ended)

-- the LRA of a call is begun
begun_at : (s : State) (node : ℕ) (l : Id) (m : ℕ) (call : Duty) → IsCallTo s node l m call → is_begun (set_of s node) l ≡ true
begun_at s node l m call due = subst (λ (d : Id). is_begun (set_of s node) d ≡ true) due.lra (held_begun (set_of s node) call.id due.due.held)

-- what is owed to the participant
owed_at : (s : State) (node : ℕ) (l : Id) (m : ℕ) (kind : Kind) (called : IsCalledTo s node l m kind) → is_owed (set_of s node) kind called.call.act l m ≡ true
owed_at s node l m kind called =
    subst (λ (d : Id). is_owed (set_of s node) kind called.call.act d m ≡ true) called.due.lra
    (subst (λ (n : ℕ). is_owed (set_of s node) kind called.call.act called.call.id n ≡ true) called.due.member
    (subst (λ (k : Kind). is_owed (set_of s node) k called.call.act called.call.id called.call.member ≡ true) called.so called.due.due.owed))

-- A participant is asked in one direction only

pub way_compensated : (s t : State) (events : List Event) (replies : List EventReply) (node : ℕ) (l : Id) (m : ℕ) → IsWorld s → Runs s events replies t → IsNode s node → IsAskedFor s node l m Compensate → IsAskedFor t node l m Complete → ⊥
way_compensated s t events replies node l m world runs is was asked =
    let kept = run_keeps s t events replies world runs in
    never_back t.history (front_of s node) (front_of t node) (grown_at s t node world kept is) l m
    (as_before (λ (S : List Fact). IsAsked S l m Compensate) s t node world kept is (asked_at s node l m Compensate world is was))
    (asked_at t node l m Complete kept.world (still_node s t node kept is) asked)

-- the home knows each cancel that any node knew
pub way_home : (s t : State) (events : List Event) (replies : List EventReply) (node : ℕ) (l : Id) (m : ℕ) → IsWorld s → Runs s events replies t → IsNode s node → IsNode t l.home → IsAskedFor s node l m Compensate → IsAskedFor t l.home l m Complete → ⊥
way_home s t events replies node l m world runs is home was asked =
    let kept = run_keeps s t events replies world runs in
    let wanted = as_before (λ (S : List Fact). want S l ≡ Some Cancel) s t node world kept is (asked_cancel (set_of s node) l m (asked_at s node l m Compensate world is was)) in
    let here = cancel_at_home t.history kept.world.lawful (front_of s node) (front_of t l.home) (kept.grown.closed (front_of s node) (closed_at s node world is)) (closed_at t l.home kept.world home) l
    (kept.world.current l.home home.some home.there).own wanted in
    let wrong : Some Cancel ≡ Some Close = sym here ∙ asked_close (set_of t l.home) l m (asked_at t l.home l m Complete kept.world home asked) in
    cc

pub way_ended : (s t : State) (events : List Event) (replies : List EventReply) (node : ℕ) (l : Id) (m : ℕ) (act : Act) → IsWorld s → Runs s events replies t → IsNode s node → is_pending (heard (set_of s node) l m act) ≡ false → IsAskedFor t node l m act → ⊥
way_ended s t events replies node l m act world runs is ends asked =
    let kept = run_keeps s t events replies world runs in
    never_again t.history (front_of s node) (front_of t node) (grown_at s t node world kept is) l m act
    (as_before (λ (S : List Fact). is_pending (heard S l m act) ≡ false) s t node world kept is ends)
    (asked_at t node l m act kept.world (still_node s t node kept is) asked)

pub way_forgets : (s t : State) (events : List Event) (replies : List EventReply) (node : ℕ) (l : Id) (m : ℕ) (act : Act) → IsWorld s → Runs s events replies t → IsNode s node → IsCalledTo s node l m Forget → IsAskedFor t node l m act → ⊥
way_forgets s t events replies node l m act world runs is called asked =
    let kept = run_keeps s t events replies world runs in
    let owed = owed_forget (set_of s node) called.call.act l m (owed_at s node l m Forget called) in
    unasked_at t node l m act kept.world (still_node s t node kept is)
    (over_later t.history (front_of s node) (front_of t node) (grown_at s t node world kept is) l
    (as_before (λ (S : List Fact). is_begun S l ≡ true) s t node world kept is (begun_at s node l m called.call called.due))
    (forget_over (facts t.history (front_of s node)) l m (as_before (λ (S : List Fact). is_forget_duty S l m ≡ true) s t node world kept is owed)))
    asked

pub way_hears : (s t : State) (events : List Event) (replies : List EventReply) (node : ℕ) (l : Id) (m : ℕ) (act : Act) → IsWorld s → Runs s events replies t → IsNode s node → IsCalledTo s node l m After → IsAskedFor t node l m act → ⊥
way_hears s t events replies node l m act world runs is called asked =
    let kept = run_keeps s t events replies world runs in
    let owed = owed_after (set_of s node) called.call.act l m (owed_at s node l m After called) in
    unasked_at t node l m act kept.world (still_node s t node kept is)
    (end_later t.history (front_of s node) (front_of t node) (grown_at s t node world kept is) l
    (as_before (λ (S : List Fact). is_begun S l ≡ true) s t node world kept is (begun_at s node l m called.call called.due))
    (after_end (facts t.history (front_of s node)) l m (as_before (λ (S : List Fact). is_after_duty S l m ≡ true) s t node world kept is owed)))
    asked

-- Both acts

module _ (s t : State) (events : List Event) (replies : List EventReply) (one other : ℕ) (l : Id) (m : ℕ) (world : IsWorld s) (runs : Runs s events replies t) (is : IsNode s one) (at : IsNode t other) where
  kept : IsKeptBy s t
  kept = run_keeps s t events replies world runs

  early : IsClosed t.history (front_of s one)
  early = kept.grown.closed (front_of s one) (closed_at s one world is)

  late : IsClosed t.history (front_of t other)
  late = closed_at t other kept.world at

  was : (act : Act) → IsAskedFor s one l m act → IsAsked (facts t.history (front_of s one)) l m act
  was act asked = as_before (λ (S : List Fact). IsAsked S l m act) s t one world kept is (asked_at s one l m act world is asked)

  shows : (act : Act) → IsAskedFor t other l m act → IsAsked (set_of t other) l m act
  shows act asked = asked_at t other l m act kept.world at asked

  pub both_above : (act next : Act) → IsAskedFor s one l m act → IsAskedFor t other l m next → (act ≡ next → ⊥) → IsAncestorCancelled t l
  both_above Complete Complete first then apart = absurd (apart refl)
  both_above Compensate Compensate first then apart = absurd (apart refl)
  both_above Complete Compensate first then apart =
      record {
        front = front_of t other;
        closed = late;
        cancelled = parted t.history kept.world.lawful (front_of s one) (front_of t other) early late l (asked_close _ l m (was Complete first)) (asked_cancel _ l m (shows Compensate then));
      }
  both_above Compensate Complete first then apart =
      record {
        front = front_of s one;
        closed = early;
        cancelled = parted t.history kept.world.lawful (front_of t other) (front_of s one) late early l (asked_close _ l m (shows Complete then)) (asked_cancel _ l m (was Compensate first));
      }

  pub both_root : (act next : Act) → is_root (set_of s one) l ≡ true → IsAskedFor s one l m act → IsAskedFor t other l m next → (act ≡ next → ⊥) → ⊥
  both_root Complete Complete root first then apart = apart refl
  both_root Compensate Compensate root first then apart = apart refl
  both_root Complete Compensate root first then apart =
      root_whole t.history kept.world.lawful (front_of s one) (front_of t other) early late l
      (as_before (λ (S : List Fact). is_root S l ≡ true) s t one world kept is root)
      (asked_close _ l m (was Complete first)) (asked_cancel _ l m (shows Compensate then))
  both_root Compensate Complete root first then apart =
      root_whole t.history kept.world.lawful (front_of t other) (front_of s one) late early l still
      (asked_close _ l m (shows Complete then)) (asked_cancel _ l m (was Compensate first))
    where
      rooted : is_root (facts t.history (front_of s one)) l ≡ true
      rooted = as_before (λ (S : List Fact). is_root S l ≡ true) s t one world kept is root

      still : is_root (set_of t other) l ≡ true
      still =
          ap is_none (sym (parent_both t.history kept.world.lawful (front_of s one) (front_of t other) early late l
          (wanted_begun t.history kept.world.lawful (front_of s one) early l Cancel (asked_cancel _ l m (was Compensate first)))
          (wanted_begun t.history kept.world.lawful (front_of t other) late l Close (asked_close _ l m (shows Complete then)))))
          ∙ rooted

-- The list

pub listed_due : (s : State) (node : ℕ) (view : View) (call : Duty) → IsWorld s → IsNode s node → IsViewOf s.history (front_of s node) view → In call (duties_of view node) ↔ IsDuty node (set_of s node) call
listed_due s node view call world is of =
    let all = all_of_view (set_of s node) view node (settled_at s node world is) of.stands is.some (omega (arith, is.there, (closed_at s node world is).nodes, ap (λ (v : List ℕ). length v) of.counts)) in
    (all.only call, all.all call)
