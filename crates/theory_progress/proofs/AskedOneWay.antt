-- what a participant is asked for, if there are more facts
use Rattle.std.proofs.Common.{◌≡◌, inl, inr, ◌≤◌, ◌&&◌, ℕ, List, sym, ap, subst, ◌∙◌, refl, true, false, arith, Option, Some, None, is_some, nat_lt}
use Rattle.std.specs.Option.{option_map_or}
use Rattle.std.proofs.lemmas.Bool.Decides.{nat_tests}
use Rattle.state_ids.specs.Ids.{Id}
use Rattle.state_ids.specs.States.{level}
use Rattle.state_ids.specs.declared.outcome.Act.{Act}
use Rattle.state_ids.specs.declared.outcome.Act.TheVariants.{Compensate, Complete}
use Rattle.state_ids.specs.declared.outcome.Verdict.{Verdict}
use Rattle.state_ids.specs.declared.outcome.Verdict.TheVariants.{Cancel, Close}
use Rattle.state_facts.specs.declared.fact.Fact.{Fact}
use Rattle.state_facts.specs.Duties.{is_at_end, is_over, is_pending, is_root_decided, owes_after, owes_forget, wants_cancel}
use Rattle.state_facts.specs.Links.{Links}
use Rattle.state_facts.specs.Lists.{In}
use Rattle.state_facts.specs.Sets.{chain, demands, heard, is_begun, is_ended, is_open, is_participant, is_root, links_of, some_shows, want}
use Rattle.state_facts.proofs.Heard.{heard_inside}
use Rattle.state_facts.proofs.Membership.{any_gives}
use Rattle.state_forest.proofs.Bools.{and_left, and_right, not_false, or_cases}
use Rattle.state_forest.proofs.UnderAnLra.{under_self}
use Rattle.theory_history.specs.Growth.{IsSettled}
use Rattle.theory_history.specs.Histories.{History, facts}
use Rattle.theory_history.proofs.Basics.{both_true}
use Rattle.theory_history.proofs.ClosedSets.{closed_settled, facts_inside}
use Rattle.theory_history.proofs.Decisions.{wanted_begun}
use Rattle.theory_history.proofs.Ranks.{force}
use Rattle.theory_history.proofs.RanksRise.{IsGrown, kept_chain, kept_open, kept_want, true_not, wants_more}
use Rattle.wire_callbacks.specs.declared.duty.Duty.{Duty}
use Rattle.wire_callbacks.specs.CallDuties.{IsDuty}
use Rattle.theory_progress.specs.Calls.{IsActUnder, asks_to_act}
use Rattle.theory_progress.proofs.ActsAsked.{IsAsked, call_asked}
use Rattle.theory_progress.proofs.AnswersLeft.{root_wants}
use Rattle.theory_progress.proofs.OpenUnder.{ended_uncalled}
use Rattle.theory_progress.proofs.UnderWay.{ended_under, in_under, some_is}

-- The participant of a call

-- a call is under its own LRA
own_call : (S : List Fact) (node : ℕ) (call : Duty) → IsSettled S → IsDuty node S call → asks_to_act call.kind ≡ true → IsActUnder S call.id call
own_call S node call settled duty asks =
    record {
      duty = subst (λ (home : ℕ). IsDuty home S call) (sym duty.own) duty;
      under = under_self S settled.whole.nested call.id;
      asks = asks;
    }

pub asked_by : (S : List Fact) (node : ℕ) (call : Duty) → IsSettled S → IsDuty node S call → asks_to_act call.kind ≡ true → IsAsked S call.id call.member call.act
asked_by S node call settled duty asks = call_asked S call.id call (own_call S node call settled duty asks)

-- no participant of an LRA that has ended is asked to act
pub ended_unasked : (S : List Fact) (node : ℕ) (call : Duty) → IsSettled S → IsDuty node S call → asks_to_act call.kind ≡ true → is_ended S call.id ≡ true → ⊥
ended_unasked S node call settled duty asks ended = ended_uncalled S call.id call settled ended (own_call S node call settled duty asks)

-- a participant that is asked for an act is of an LRA that wants it
pub asked_close : (S : List Fact) (l : Id) (m : ℕ) → IsAsked S l m Complete → want S l ≡ Some Close
asked_close S l m asked = by (links_of S l m) asked.demanded
  where
    closes : (w : Option Verdict) (links : Links) → demands w links Complete ≡ true → w ≡ Some Close
    closes None links e = absurd cc
    closes (Some Close) links e = refl
    closes (Some Cancel) links e = absurd cc

    by : (o : Option Links) → option_map_or (λ links. demands (want S l) links Complete) o false ≡ true → want S l ≡ Some Close
    by None e = absurd cc
    by (Some links) e = closes (want S l) links e

pub asked_cancel : (S : List Fact) (l : Id) (m : ℕ) → IsAsked S l m Compensate → want S l ≡ Some Cancel
asked_cancel S l m asked = by (links_of S l m) asked.demanded
  where
    cancels : (w : Option Verdict) (links : Links) → demands w links Compensate ≡ true → w ≡ Some Cancel
    cancels None links e = absurd cc
    cancels (Some Close) links e = absurd cc
    cancels (Some Cancel) links e = refl

    by : (o : Option Links) → option_map_or (λ links. demands (want S l) links Compensate) o false ≡ true → want S l ≡ Some Cancel
    by None e = absurd cc
    by (Some links) e = cancels (want S l) links e

-- if a participant is to forget, its root has ended; if it is to hear of the end, its LRA is at its
-- end
pub forget_over : (S : List Fact) (l : Id) (m : ℕ) → (is_participant S l m && option_map_or (owes_forget S l m) (links_of S l m) false) ≡ true → is_over S l ≡ true
forget_over S l m e = by (links_of S l m) (and_right (is_participant S l m) _ e)
  where
    by : (o : Option Links) → option_map_or (owes_forget S l m) o false ≡ true → is_over S l ≡ true
    by None f = absurd cc
    by (Some links) f = and_left (is_over S l) _ f

pub after_end : (S : List Fact) (l : Id) (m : ℕ) → (is_participant S l m && option_map_or (owes_after S l m) (links_of S l m) false) ≡ true → is_at_end S l ≡ true
after_end S l m e = by (links_of S l m) (and_right (is_participant S l m) _ e)
  where
    by : (o : Option Links) → option_map_or (owes_after S l m) o false ≡ true → is_at_end S l ≡ true
    by None f = absurd cc
    by (Some links) f = and_left (is_at_end S l) _ f

-- More facts

-- an act that has ended stays ended
still_ended : (a b : ℕ) → a ≤ b → nat_lt a 2 ≡ false → nat_lt b 2 ≡ true → ⊥
still_ended a b le e f = grind (arith, nat_tests, le, e, f)

pub cancel_is : (o : Option Verdict) → wants_cancel o ≡ true → o ≡ Some Cancel
cancel_is None e = absurd cc
cancel_is (Some Close) e = absurd cc
cancel_is (Some Cancel) e = refl

no_more : (o : Option Verdict) → force (Some Cancel) ≤ force o → o ≡ Some Cancel
no_more None le = absurd (omega (arith, le))
no_more (Some Close) le = absurd (omega (arith, le))
no_more (Some Cancel) le = refl

module _ (h : History) (v w : List ℕ) (g : IsGrown h v w) where
  abbrev S : List Fact
  S = facts h v

  abbrev T : List Fact
  T = facts h w

  -- an LRA that wants Cancel wants it for ever
  pub cancel_stays : (l : Id) → want S l ≡ Some Cancel → want T l ≡ Some Cancel
  cancel_stays l wants =
      no_more (want T l) (subst (λ (o : Option Verdict). force o ≤ force (want T l)) wants (wants_more h v w g l (wanted_begun h g.lawful v g.before l Cancel wants)))

  -- so a participant that was to compensate is never asked to complete
  pub never_back : (l : Id) (m : ℕ) → IsAsked S l m Compensate → IsAsked T l m Complete → ⊥
  never_back l m was is =
      let wrong : Some Cancel ≡ Some Close = sym (cancel_stays l (asked_cancel S l m was)) ∙ asked_close T l m is in
      cc

  -- and a participant that has ended an act is not asked for it again
  pub never_again : (l : Id) (m : ℕ) (act : Act) → is_pending (heard S l m act) ≡ false → IsAsked T l m act → ⊥
  never_again l m act ends is = still_ended (level (heard S l m act)) (level (heard T l m act)) (heard_inside S T (facts_inside h v w g.below) l m act) ends is.pending

  -- an LRA that has ended, and still wants the same, has ended with more facts too
  pub ended_later : (l : Id) (x : Verdict) → want S l ≡ Some x → want T l ≡ Some x → is_ended S l ≡ true → is_ended T l ≡ true
  ended_later l x wanted later ended =
      let shut : some_shows is_open S l ≡ false = not_false _ (and_right (is_some (want S l)) _ ended) in
      both_true (is_some (want T l)) _ (ap is_some later)
      (true_not _ (λ opened. let wrong : true ≡ false = sym (kept_open h v w g l x wanted later opened) ∙ shut in cc))

  ended_wants : (l : Id) → is_ended S l ≡ true → (x : Verdict) × (want S l ≡ Some x)
  ended_wants l ended = some_is (want S l) (and_left (is_some (want S l)) _ ended)

  -- an LRA under a root that has ended has ended for ever
  pub over_later : (l : Id) → is_begun S l ≡ true → is_over S l ≡ true → is_ended T l ≡ true
  over_later l begun over =
      let found = any_gives (λ (a : Id). is_root S a && is_ended S a) (chain S l) over in
      let a = found.0 in
      let root = and_left (is_root S a) _ found.2 in
      let ended = and_right (is_root S a) _ found.2 in
      let x = ended_wants a ended in
      let later = ended_later a x.0 x.1 (root_wants h v w g a root x.0 x.1) ended in
      let chained : In a (chain T l) = subst (λ (c : List Id). In a c) (kept_chain h v w g l begun) found.1 in
      ended_under T a l (closed_settled h g.lawful w g.after) (in_under T a l chained) later

  -- an LRA under a decided root keeps wanting the same
  decided_wants : (l : Id) → is_begun S l ≡ true → is_root_decided S l ≡ true → want S l ≡ want T l
  decided_wants l begun decided =
      let found = any_gives (λ (a : Id). is_root S a && is_some (want S a)) (chain S l) decided in
      let a = found.0 in
      let y = some_is (want S a) (and_right (is_root S a) _ found.2) in
      let later = root_wants h v w g a (and_left (is_root S a) _ found.2) y.0 y.1 in
      kept_want h v w g a y.0 y.1 later l begun (subst (λ (c : List Id). In a c) (kept_chain h v w g l begun) found.1)

  -- an LRA that is at its end has ended for ever
  pub end_later : (l : Id) → is_begun S l ≡ true → is_at_end S l ≡ true → is_ended T l ≡ true
  end_later l begun end =
      let ended = and_left (is_ended S l) _ end in
      let x = ended_wants l ended in
      elim (or_cases (wants_cancel (want S l)) (is_root_decided S l) (and_right (is_ended S l) _ end)) [
        | inl cancels ↦ let wants = cancel_is (want S l) cancels in ended_later l Cancel wants (cancel_stays l wants) ended
        | inr decided ↦ ended_later l x.0 x.1 (sym (decided_wants l begun decided) ∙ x.1) ended
      ]
