-- whoever is due to compensate, all behind it have ended
use Rattle.std.proofs.Common.{◌≡◌, ◌⊎◌, inl, inr, ◌<◌, ◌&&◌, ◌||◌, ◌==◌, ◌++◌, ℕ, suc, List, [], ◌∷◌, refl, sym, ap, ◌∙◌, Bool, true, false, cond, arith, Option, Some, None, is_some, nat_lt}
use mathlib.Core.Bool.{not}
use Rattle.std.specs.List.{list_any}
use Rattle.std.specs.Option.{option_map_or}
use Rattle.std.proofs.lemmas.Bool.Decides.{nat_tests}
use Rattle.state_ids.specs.Ids.{Id}
use Rattle.state_ids.specs.States.{compensating}
use Rattle.state_ids.specs.declared.status.MemberStatus.{MemberStatus}
use Rattle.state_ids.specs.declared.status.MemberStatus.TheVariants.{Compensated, FailedToCompensate}
use Rattle.state_ids.specs.declared.outcome.Act.{Act}
use Rattle.state_ids.specs.declared.outcome.Act.TheVariants.{Complete, Compensate}
use Rattle.state_ids.specs.declared.outcome.Outcome.{Outcome}
use Rattle.state_ids.specs.declared.outcome.Outcome.TheVariants.{Busy, Done, Failed}
use Rattle.state_ids.specs.declared.outcome.Verdict.TheVariants.{Cancel, Close}
use Rattle.state_facts.specs.declared.fact.Fact.{Fact}
use Rattle.state_facts.specs.Duties.{has_to_compensate, holds_back, is_compensation_due, is_later, is_pending, is_uncompensated, saga_path, slots_below, topmost_cancelled}
use Rattle.state_facts.specs.Links.{Links}
use Rattle.state_facts.specs.Sets.{chain, demands, has_left, heard, is_held, is_participant, is_under, links_of, member_status, status_by, want}
use Rattle.state_facts.proofs.Membership.{any_from}
use Rattle.state_forest.proofs.Bools.{and_left, and_right, not_false}
use Rattle.state_forest.proofs.SagaOrder.{top_is}
use Rattle.theory_history.specs.Histories.{History, facts}
use Rattle.theory_history.proofs.Basics.{both_true, false_from}
use Rattle.theory_history.proofs.RanksRise.{IsGrown}
use Rattle.theory_progress.specs.SagaOrder.{HasCompensated, IsBehind}
use Rattle.theory_progress.proofs.ActsAsked.{IsAsked, cancels}
use Rattle.theory_progress.proofs.AskedOneWay.{asked_close, cancel_stays}
use Rattle.theory_progress.proofs.LaterSets.{IsMember, clash, member_kept, pending_earlier, settled}
use Rattle.theory_progress.proofs.OpenUnder.{joined_as, stayed_by}

-- In one LRA, whoever joined later comes behind

later_slot : (p : List ℕ) (m n : ℕ) → m < n → is_later (p ++ n ∷ []) (p ++ m ∷ []) ≡ true
later_slot [] m n less = by (n == m) less
  where
    by : (b : Bool) → m < n → (nat_lt m n || (b && false)) ≡ true
    by true less = grind (arith, nat_tests, less)
    by false less = grind (arith, nat_tests, less)
later_slot (x ∷ p) m n less = by (is_later (p ++ n ∷ []) (p ++ m ∷ [])) (later_slot p m n less)
  where
    by : (b : Bool) → b ≡ true → (nat_lt x x || ((x == x) && b)) ≡ true
    by true e = grind (arith, nat_tests)
    by false e = absurd cc

pub joined_later : (S : List Fact) (l : Id) (m n : ℕ) → is_participant S l n ≡ true → m < n → IsBehind S l m l n
joined_later S l m n known less = record { known = known; saga = refl; later = later_slot path m n less }
  where
    path : List ℕ
    path = option_map_or (λ a. slots_below S a (chain S l)) (topmost_cancelled S l) []

-- What is due in a set

-- the saga of a participant that is due, in which no later compensation is pending
record IsTurn (S : List Fact) (l : Id) (m : ℕ) : Type 0 where
  top : Id
  own : topmost_cancelled S l ≡ Some top
  free : list_any (λ f. holds_back S top (saga_path S l m) f.body) S ≡ false

turn_of : (S : List Fact) (l : Id) (m : ℕ) → is_compensation_due S l m ≡ true → IsTurn S l m
turn_of S l m due = by (topmost_cancelled S l) refl due
  where
    by : (o : Option Id) → topmost_cancelled S l ≡ o → option_map_or (λ a. is_participant S l m && (is_uncompensated S l m && not (list_any (λ f. holds_back S a (saga_path S l m) f.body) S))) o false ≡ true → IsTurn S l m
    by None at e = absurd cc
    by (Some a) at e =
        record {
          top = a;
          own = at;
          free = not_false (list_any (λ f. holds_back S a (saga_path S l m) f.body) S) (and_right (is_uncompensated S l m) _ (and_right (is_participant S l m) _ e));
        }

-- the status of a participant that is not to compensate any more, by whether it gave a link for that
-- and by what was heard
through : (given : Bool) (o : Option Outcome) → (given && is_pending o) ≡ false → (cond given (compensating o) Compensated ≡ Compensated) ⊎ (cond given (compensating o) Compensated ≡ FailedToCompensate)
through false o e = inl refl
through true None e = absurd cc
through true (Some Busy) e = absurd cc
through true (Some Done) e = inl refl
through true (Some Failed) e = inr refl

shown_through : (S : List Fact) (d : Id) (n : ℕ) (links : Links) → links_of S d n ≡ Some links → has_left S d n ≡ false → want S d ≡ Some Cancel → has_to_compensate links (heard S d n Compensate) ≡ false → HasCompensated S d n
shown_through S d n links joined stayed wants ends = by (is_held S d) refl
  where
    status : is_held S d ≡ true → member_status S d n ≡ Some (status_by (Some Cancel) links (heard S d n Complete) (heard S d n Compensate))
    status held = rw (held, stayed, joined, wants) refl

    by : (b : Bool) → is_held S d ≡ b → HasCompensated S d n
    by false at = inr (inr at)
    by true at = elim (through (is_some links.compensate) (heard S d n Compensate) ends) [
      | inl done ↦ inl (status at ∙ ap (λ (x : MemberStatus). Some x) done)
      | inr failed ↦ inr (inl (status at ∙ ap (λ (x : MemberStatus). Some x) failed))
    ]

-- Two closed sets

module _ (h : History) (v w : List ℕ) (g : IsGrown h v w) (l d : Id) (m n : ℕ) (due : is_compensation_due (facts h v) l m ≡ true) (behind : IsBehind (facts h v) l m d n) where
  abbrev S : List Fact
  S = facts h v

  abbrev T : List Fact
  T = facts h w

  turn : IsTurn S l m
  turn = turn_of S l m due

  top : topmost_cancelled S d ≡ Some turn.top
  top = behind.saga ∙ turn.own

  wants : want S d ≡ Some Cancel
  wants = cancels S d turn.top top

  -- nobody behind is to compensate
  none_behind : is_uncompensated S d n ≡ false
  none_behind = false_from (is_uncompensated S d n) (λ pending.
      let joined = joined_as S d n behind.known in
      let under = (top_is S (settled h v w g).whole.nested (suc d.num) d turn.top (omega arith) top).under in
      let holds : holds_back S turn.top (saga_path S l m) joined.1.body ≡ true =
      ap (holds_back S turn.top (saga_path S l m)) joined.3
      ∙ both_true (is_under S turn.top d) _ under
      (both_true (not (has_left S d n)) _ (ap not (stayed_by S d n behind.known))
      (both_true (is_later (saga_path S d n) (saga_path S l m)) _ behind.later pending)) in
      clash (list_any (λ f. holds_back S turn.top (saga_path S l m) f.body) S)
      (any_from (λ (f : Fact). holds_back S turn.top (saga_path S l m) f.body) S joined.1 joined.2 holds)
      turn.free)

  member : IsMember h v w g d n
  member = member_kept h v w g d n Cancel wants behind.known

  ends : has_to_compensate member.links (heard T d n Compensate) ≡ false
  ends = false_from (has_to_compensate member.links (heard T d n Compensate)) (λ e.
      let before : has_to_compensate member.links (heard S d n Compensate) ≡ false =
      sym (ap (λ o. option_map_or (λ links. has_to_compensate links (heard S d n Compensate)) o false) member.before) ∙ none_behind in
      clash (has_to_compensate member.links (heard S d n Compensate))
      (both_true (is_some member.links.compensate) _ (and_left (is_some member.links.compensate) _ e)
      (pending_earlier h v w g d n Compensate (and_right (is_some member.links.compensate) _ e)))
      before)

  later : want T d ≡ Some Cancel
  later = cancel_stays h v w g d wants

  -- so each of them has ended by the greater set too
  pub behind_ended : HasCompensated T d n
  behind_ended = shown_through T d n member.links member.after (stayed_by T d n member.known) later ends

  -- and is asked for nothing
  pub behind_unasked : (act : Act) → IsAsked T d n act → ⊥
  behind_unasked Complete asked = let wrong : Some Cancel ≡ Some Close = sym later ∙ asked_close T d n asked in cc
  behind_unasked Compensate asked =
      let demanded : demands (want T d) member.links Compensate ≡ true =
      sym (ap (λ o. option_map_or (λ (y : Links). demands (want T d) y Compensate) o false) member.after) ∙ asked.demanded in
      let given : is_some member.links.compensate ≡ true = sym (ap (λ x. demands x member.links Compensate) later) ∙ demanded in
      clash (has_to_compensate member.links (heard T d n Compensate)) (both_true (is_some member.links.compensate) _ given asked.pending) ends
