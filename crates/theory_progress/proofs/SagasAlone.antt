-- an LRA that waits only for those under itself, if there are more facts, did so before
use Rattle.std.proofs.Common.{◌≡◌, ◌==◌, ℕ, suc, List, sym, ap, subst, ◌∙◌, true, arith, Some}
use Rattle.std.specs.List.{AllByRecursion}
use Rattle.state_ids.specs.Ids.{Id}
use Rattle.state_ids.specs.declared.outcome.Verdict.{Verdict}
use Rattle.state_ids.specs.declared.outcome.Verdict.TheVariants.{Cancel, Close}
use Rattle.state_facts.specs.declared.fact.Fact.{Fact}
use Rattle.state_facts.specs.Duties.{topmost_cancelled}
use Rattle.state_facts.specs.Lists.{In}
use Rattle.state_facts.specs.Sets.{NamesEarlier, is_under, want}
use Rattle.state_forest.proofs.NumberedMembers.{same_is}
use Rattle.state_forest.proofs.Paths.{under_home, under_number}
use Rattle.state_forest.proofs.SagaOrder.{IsTop, top_is, topmost_below}
use Rattle.theory_history.specs.Histories.{History, facts}
use Rattle.theory_history.proofs.Basics.{both_true, equal_itself}
use Rattle.theory_history.proofs.ClosedSets.{closed_settled}
use Rattle.theory_history.proofs.Decisions.{wanted_begun}
use Rattle.theory_history.proofs.RanksRise.{IsGrown, kept_chain}
use Rattle.theory_progress.specs.Calls.{saga_of}
use Rattle.theory_progress.proofs.ActsAsked.{cancels}
use Rattle.theory_progress.proofs.AskedOneWay.{cancel_stays}
use Rattle.theory_progress.proofs.CallRoundsFall.{top_of}
use Rattle.theory_progress.proofs.UnderWay.{closing_alone, in_under, saga_some, under_goes, under_in}

-- two LRAs that are under each other are the same
under_both : (S : List Fact) → AllByRecursion NamesEarlier S → (a b : Id) → is_under S a b ≡ true → is_under S b a ≡ true → a ≡ b
under_both S nested a b one other =
    same_is a b
    (both_true (a.home == b.home) _ (equal a.home b.home (sym (under_home S nested a (suc b.num) b (omega arith) one)))
    (equal a.num b.num (omega (arith, under_number S nested a (suc b.num) b (omega arith) one, under_number S nested b (suc a.num) a (omega arith) other))))
  where
    equal : (m n : ℕ) → m ≡ n → (m == n) ≡ true
    equal m n e = subst (λ (k : ℕ). (m == k) ≡ true) e (equal_itself m)

-- if such an LRA wants Cancel, it is the topmost cancelled one
pub alone_top : (S : List Fact) (l : Id) → want S l ≡ Some Cancel → saga_of S l ≡ l → topmost_cancelled S l ≡ Some l
alone_top S l cancel alone =
    let top = top_of S l cancel in
    top.1 ∙ ap (λ (x : Id). Some x) (sym (saga_some S l top.0 top.1) ∙ alone)

module _ (h : History) (v w : List ℕ) (g : IsGrown h v w) (l : Id) where
  cancel_alone : want (facts h v) l ≡ Some Cancel → saga_of (facts h w) l ≡ l → saga_of (facts h v) l ≡ l
  cancel_alone wants alone = saga_some (facts h v) l top.0 top.1 ∙ one
    where
      top : (a : Id) × (topmost_cancelled (facts h v) l ≡ Some a)
      top = top_of (facts h v) l wants

      is : IsTop (facts h v) l top.0
      is = top_is (facts h v) (closed_settled h g.lawful v g.before).whole.nested (suc l.num) l top.0 (omega arith) top.1

      nested : AllByRecursion NamesEarlier (facts h w)
      nested = (closed_settled h g.lawful w g.after).whole.nested

      beneath : is_under (facts h w) top.0 l ≡ true
      beneath = in_under (facts h w) top.0 l (subst (λ (c : List Id). In top.0 c) (kept_chain h v w g l (wanted_begun h g.lawful v g.before l Cancel wants)) (under_in (facts h v) top.0 l is.under))

      -- the topmost cancelled LRA of its chain, if there are more facts
      last : (c : Id) × (topmost_cancelled (facts h w) top.0 ≡ Some c)
      last = top_of (facts h w) top.0 (cancel_stays h v w g top.0 (cancels (facts h v) top.0 top.0 is.own))

      at : IsTop (facts h w) top.0 last.0
      at = top_is (facts h w) nested (suc top.0.num) top.0 last.0 (omega arith) last.1

      own : last.0 ≡ l
      own =
          sym (saga_some (facts h w) l last.0 (topmost_below (facts h w) nested last.0 at.own (suc l.num) l (omega arith) (under_goes (facts h w) nested last.0 top.0 l at.under beneath)))
          ∙ alone

      one : top.0 ≡ l
      one = under_both (facts h w) nested top.0 l beneath (subst (λ (x : Id). is_under (facts h w) x top.0 ≡ true) own at.under)

  pub alone_before : (x : Verdict) → want (facts h v) l ≡ Some x → saga_of (facts h w) l ≡ l → saga_of (facts h v) l ≡ l
  alone_before Close wants alone = closing_alone (facts h v) l wants
  alone_before Cancel wants alone = cancel_alone wants alone
