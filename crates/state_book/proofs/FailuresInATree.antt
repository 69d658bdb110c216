-- In a tree that shows that it ended well, no LRA shows a failure.
use Rattle.std.proofs.Common.{◌≡◌, ◌⊎◌, ◌∙◌, inl, inr, Bool, true, false, List, Option, Some, None, cond, refl, sym, ap, subst}
use Rattle.std.specs.List.{AllByRecursion, list_any}
use Rattle.state_ids.specs.Ids.{Id, same_id}
use Rattle.state_ids.specs.States.{same_member_status, shown}
use Rattle.state_ids.specs.declared.outcome.Verdict.{Verdict}
use Rattle.state_ids.specs.declared.outcome.Verdict.TheVariants.{Close, Cancel}
use Rattle.state_ids.specs.declared.status.MemberStatus.{MemberStatus}
use Rattle.state_ids.specs.declared.status.MemberStatus.TheVariants.{FailedToComplete, FailedToCompensate}
use Rattle.state_facts.specs.declared.fact.Fact.{Fact}
use Rattle.state_facts.specs.Duties.{wants_cancel}
use Rattle.state_facts.specs.Lists.{In}
use Rattle.state_facts.specs.Sets.{NamesEarlier, chain, is_decided, is_ended, is_under, shows, shows_now, some_shows, want}
use Rattle.state_facts.proofs.Membership.{any_from, any_gives}
use Rattle.state_forest.specs.Standing.{IsWhole}
use Rattle.state_forest.specs.Trees.{tree_shows, tree_status}
use Rattle.state_forest.proofs.NumberedMembers.{same_is, same_self}
use Rattle.state_forest.proofs.SagaOrder.{want_cancels}
use Rattle.state_forest.proofs.UnderAnLra.{join_shows, shown_join}
use Rattle.theory_history.proofs.Basics.{false_from}
use Rattle.theory_history.proofs.SameChains.{chain_goes}
use Rattle.state_book.specs.Trees.{ended_well, failed}

clash : (b : Bool) → b ≡ true → b ≡ false → ⊥
clash b e f = let wrong : true ≡ false = sym e ∙ f in cc

under_in : (S : List Fact) (a l : Id) → is_under S a l ≡ true → In a (chain S l)
under_in S a l e = let found = any_gives (same_id a) (chain S l) e in subst (λ x. In x (chain S l)) (sym (same_is a found.0 found.2)) found.1

under_goes : (S : List Fact) → AllByRecursion NamesEarlier S → (a l d : Id) → is_under S a l ≡ true → is_under S l d ≡ true → is_under S a d ≡ true
under_goes S nested a l d e f = any_from (same_id a) (chain S d) a (chain_goes S nested d l a (under_in S l d f) (under_in S a l e)) (same_self a)

-- what a participant under an LRA shows, it also shows under every LRA above that
shown_above : (test : MemberStatus → Bool) (S : List Fact) → AllByRecursion NamesEarlier S → (a l : Id) → is_under S a l ≡ true → some_shows test S l ≡ true → some_shows test S a ≡ true
shown_above test S nested a l above shown =
    let found = any_gives (λ (f : Fact). shows test S l f.body) S shown in
    let who = shown_join test S l found.0.body found.2 in
    join_shows test S a who.0 who.1 who.2 found.0 found.1 who.3
    (record { under = under_goes S nested a l who.0 above who.4.under; stayed = who.4.stayed; passes = who.4.passes })

-- an LRA that is under a cancelled LRA is cancelled
cancelled_below : (S : List Fact) → AllByRecursion NamesEarlier S → (a l : Id) → is_under S a l ≡ true → want S a ≡ Some Cancel → want S l ≡ Some Cancel
cancelled_below S nested a l under wants =
    let decided : list_any (is_decided S Cancel) (chain S a) ≡ true = sym (want_cancels S a) ∙ ap wants_cancel wants in
    let found = any_gives (is_decided S Cancel) (chain S a) decided in
    let there = any_from (is_decided S Cancel) (chain S l) found.0 (chain_goes S nested l a found.0 (under_in S a l under) found.1) found.2 in
    ap (λ (b : Bool). cond b (Some Cancel) (cond (list_any (is_decided S Close) (chain S l)) (Some Close) None)) there

-- an LRA shows a failure only if a participant failed to compensate, or if it closes and a
-- participant failed to complete
why_failed : (wants : Option Verdict) (ended incomplete uncompensated : Bool) → failed (shown wants ended incomplete uncompensated) ≡ true
    → (uncompensated ≡ true) ⊎ ((wants ≡ Some Close) × (incomplete ≡ true))
why_failed None e i u is = absurd cc
why_failed (Some Close) false i u is = absurd cc
why_failed (Some Close) true false u is = absurd cc
why_failed (Some Close) true true u is = inr (refl, refl)
why_failed (Some Cancel) false i u is = absurd cc
why_failed (Some Cancel) true i false is = absurd cc
why_failed (Some Cancel) true i true is = inl refl

-- if a tree ended well, no participant failed to compensate; and none failed to complete, or the
-- root was cancelled
why_well : (wants : Option Verdict) (ended incomplete uncompensated : Bool) → ended_well (tree_status (shown wants ended incomplete uncompensated) uncompensated) ≡ true
    → (uncompensated ≡ false) × ((wants ≡ Some Cancel) ⊎ (incomplete ≡ false))
why_well None e i u is = absurd cc
why_well (Some Close) false i u is = absurd cc
why_well (Some Close) true false false is = (refl, inr refl)
why_well (Some Close) true false true is = absurd cc
why_well (Some Close) true true u is = absurd cc
why_well (Some Cancel) false i u is = absurd cc
why_well (Some Cancel) true i false is = (refl, inl refl)
why_well (Some Cancel) true i true is = absurd cc

pub none_failed : (S : List Fact) (root l : Id) → IsWhole S → ended_well (tree_shows S root) ≡ true → is_under S root l ≡ true → failed (shows_now S l) ≡ false
none_failed S root l whole well under =
    false_from (failed (shows_now S l)) (λ is. by (why_failed (want S l) (is_ended S l) (incomplete l) (uncompensated l) is) tree.1)
  where
    incomplete : Id → Bool
    incomplete k = some_shows (same_member_status FailedToComplete) S k

    uncompensated : Id → Bool
    uncompensated k = some_shows (same_member_status FailedToCompensate) S k

    tree : (uncompensated root ≡ false) × ((want S root ≡ Some Cancel) ⊎ (incomplete root ≡ false))
    tree = why_well (want S root) (is_ended S root) (incomplete root) (uncompensated root) well

    by : (uncompensated l ≡ true) ⊎ ((want S l ≡ Some Close) × (incomplete l ≡ true)) → (want S root ≡ Some Cancel) ⊎ (incomplete root ≡ false) → ⊥
    by (inl bad) how = clash (uncompensated root) (shown_above (same_member_status FailedToCompensate) S whole.nested root l under bad) tree.0
    by (inr (closes, bad)) (inl cancels) = let wrong : Some Close ≡ Some Cancel = sym closes ∙ cancelled_below S whole.nested root l under cancels in cc
    by (inr (closes, bad)) (inr none) = clash (incomplete root) (shown_above (same_member_status FailedToComplete) S whole.nested root l under bad) none
