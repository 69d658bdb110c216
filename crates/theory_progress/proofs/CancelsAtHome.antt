-- the home of an LRA knows each cancel that any node knows
use Rattle.std.proofs.Common.{◌≡◌, ℕ, List, refl, sym, ap, subst, ◌∙◌, true, arith, length, Some}
use Rattle.std.specs.List.{list_any}
use Rattle.state_ids.specs.Fronts.{count}
use Rattle.state_ids.specs.Ids.{Id}
use Rattle.state_ids.specs.declared.outcome.Verdict.TheVariants.{Cancel}
use Rattle.state_facts.specs.declared.fact.Fact.{Fact}
use Rattle.state_facts.specs.Lists.{In}
use Rattle.state_facts.specs.Sets.{begins, chain, is_begun, is_decided, is_decision, want}
use Rattle.state_facts.proofs.Membership.{any_from, any_gives}
use Rattle.state_forest.proofs.ParentsAndChains.{begins_at}
use Rattle.theory_history.specs.Histories.{History, IsClosed, IsLawful, entries_of, facts}
use Rattle.theory_history.proofs.ClosedSets.{closed_settled, in_facts}
use Rattle.theory_history.proofs.Decisions.{active_home, counted_entry, decided_by, decision_asks, same_chain, wanted_begun}
use Rattle.theory_history.proofs.SameChains.{chain_home}

module _ (h : History) (lawful : IsLawful h) (v w : List ℕ) (cv : IsClosed h v) (cw : IsClosed h w) (l : Id) (own : count w l.home ≡ length (entries_of h l.home)) where
  abbrev S : List Fact
  S = facts h v

  abbrev T : List Fact
  T = facts h w

  -- what the home entered, it has
  had : (f : Fact) → f.origin ≡ l.home → In f S → In f T
  had f at m =
      let e = counted_entry h v f m in
      let origin : e.0.fact.origin ≡ l.home = ap (λ (x : Fact). x.origin) (sym e.2) ∙ at in
      subst (λ (x : Fact). In x T) (sym e.2) (in_facts h w e.0 e.1 (omega (arith, e.3, ap (count v) origin, ap (count w) origin, cv.within l.home, own)))

  pub cancel_at_home : want S l ≡ Some Cancel → want T l ≡ Some Cancel
  cancel_at_home wanted =
      let begun = wanted_begun h lawful v cv l Cancel wanted in
      let begin = any_gives (begins l) S begun in
      let there : is_begun T l ≡ true = any_from (begins l) T begin.0 (had begin.0 (begins_at l begin.0 begin.2).0 begin.1) begin.2 in
      let by = decided_by S l Cancel wanted in
      let above : by.0.home ≡ l.home = chain_home S (closed_settled h lawful v cv).whole.nested l by.0 by.1 in
      let found = any_gives (λ (f : Fact). is_decision by.0 Cancel f.body) S by.2 in
      let origin : found.0.origin ≡ by.0.home = active_home h lawful v found.0 by.0 found.1 (decision_asks by.0 Cancel found.0.body found.2) in
      let decided : is_decided T Cancel by.0 ≡ true = any_from (λ (f : Fact). is_decision by.0 Cancel f.body) T found.0 (had found.0 (origin ∙ above) found.1) found.2 in
      let chained : In by.0 (chain T l) = subst (λ (c : List Id). In by.0 c) (same_chain h lawful v w cv cw l begun there) by.1 in
      let cancels : list_any (is_decided T Cancel) (chain T l) ≡ true = any_from (is_decided T Cancel) (chain T l) by.0 chained decided in
      rw cancels refl
