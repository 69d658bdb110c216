-- An LRA that is at its end stays there: no later decision changes what it wants.
use mathlib.Core.Bool.{not}
use Rattle.std.proofs.Common.{◌≡◌, ◌⊎◌, inl, inr, ◌≤◌, ◌&&◌, ◌||◌, ℕ, List, refl, sym, ap, subst, ◌∙◌, Bool, true, false, arith, Option, Some, None, is_none, is_some}
use Rattle.state_ids.specs.Ids.{Id}
use Rattle.state_ids.specs.declared.outcome.Verdict.{Verdict}
use Rattle.state_ids.specs.declared.outcome.Verdict.TheVariants.{Close, Cancel}
use Rattle.state_facts.specs.Duties.{is_at_end, is_root_decided, wants_cancel}
use Rattle.state_facts.specs.Lists.{In}
use Rattle.state_facts.specs.Sets.{chain, is_ended, is_open, is_root, some_shows, want}
use Rattle.state_facts.proofs.Membership.{any_from, any_gives}
use Rattle.state_forest.proofs.Bools.{and_left, and_right, not_false, or_cases}
use Rattle.theory_history.specs.Histories.{History, facts}
use Rattle.theory_history.proofs.Basics.{both_true}
use Rattle.theory_history.proofs.Decisions.{parent_both, wanted_begun}
use Rattle.theory_history.proofs.Ranks.{force}
use Rattle.theory_history.proofs.RanksRise.{IsGrown, begun_later, kept_chain, kept_open, kept_want, true_not, wants_more}
use Rattle.theory_history.proofs.SplitVerdicts.{root_whole}

some_is : (o : Option Verdict) → is_some o ≡ true → (x : Verdict) × (o ≡ Some x)
some_is None e = absurd cc
some_is (Some x) e = (x, refl)

cancel_is : (o : Option Verdict) → wants_cancel o ≡ true → o ≡ Some Cancel
cancel_is None e = absurd cc
cancel_is (Some Close) e = absurd cc
cancel_is (Some Cancel) e = refl

no_more : (o : Option Verdict) → force (Some Cancel) ≤ force o → o ≡ Some Cancel
no_more None le = absurd (omega (arith, le))
no_more (Some Close) le = absurd (omega (arith, le))
no_more (Some Cancel) le = refl

left_or : (a b : Bool) → a ≡ true → (a || b) ≡ true
left_or true b e = refl
left_or false b e = absurd cc

right_or : (a b : Bool) → b ≡ true → (a || b) ≡ true
right_or true b e = refl
right_or false b e = e

module _ (h : History) (v w : List ℕ) (g : IsGrown h v w) where
  -- a root wants the same in the greater set
  root_kept : (r : Id) → is_root (facts h v) r ≡ true → (x : Verdict) → want (facts h v) r ≡ Some x → want (facts h w) r ≡ Some x
  root_kept r root x wanted =
      let more = wants_more h v w g r (wanted_begun h g.lawful v g.before r x wanted) in
      settle x (want (facts h w) r) refl wanted (subst (λ (o : Option Verdict). force o ≤ force (want (facts h w) r)) wanted more)
    where
      settle : (x : Verdict) (y : Option Verdict) → want (facts h w) r ≡ y → want (facts h v) r ≡ Some x → force (Some x) ≤ force y → want (facts h w) r ≡ Some x
      settle Close None e s le = absurd (omega (arith, le))
      settle Cancel None e s le = absurd (omega (arith, le))
      settle Close (Some Close) e s le = e
      settle Cancel (Some Cancel) e s le = e
      settle Cancel (Some Close) e s le = absurd (omega (arith, le))
      settle Close (Some Cancel) e s le = absurd (root_whole h g.lawful v w g.before g.after r root s e)

  -- and so does an LRA whose chain contains such a root
  root_over : (l r : Id) (x y : Verdict) → want (facts h v) l ≡ Some y → In r (chain (facts h v) l) → is_root (facts h v) r ≡ true → want (facts h v) r ≡ Some x → want (facts h w) l ≡ want (facts h v) l
  root_over l r x y wants chained root wanted =
      let begun = wanted_begun h g.lawful v g.before l y wants in
      let under : In r (chain (facts h w) l) = subst (λ (c : List Id). In r c) (kept_chain h v w g l begun) chained in
      sym (kept_want h v w g r x wanted (root_kept r root x wanted) l begun under)

  -- so does an LRA that wants Cancel
  cancel_kept : (l : Id) → want (facts h v) l ≡ Some Cancel → want (facts h w) l ≡ Some Cancel
  cancel_kept l wants =
      let more = wants_more h v w g l (wanted_begun h g.lawful v g.before l Cancel wants) in
      no_more (want (facts h w) l) (subst (λ (o : Option Verdict). force o ≤ force (want (facts h w) l)) wants more)

  abbrev IsMet : Id → Id → Type 0
  IsMet l r = In r (chain (facts h v) l) × ((is_root (facts h v) r && is_some (want (facts h v) r)) ≡ true)

  met : (l : Id) → is_root_decided (facts h v) l ≡ true → (r : Id) × IsMet l r
  met l e = let found = any_gives (λ (a : Id). is_root (facts h v) a && is_some (want (facts h v) a)) (chain (facts h v) l) e in (found.0, (found.1, found.2))

  by_root : (l r : Id) (y : Verdict) → want (facts h v) l ≡ Some y → IsMet l r → want (facts h w) l ≡ want (facts h v) l
  by_root l r y wants it =
      let root = and_left (is_root (facts h v) r) _ it.1 in
      let wanted = some_is (want (facts h v) r) (and_right (is_root (facts h v) r) _ it.1) in
      root_over l r wanted.0 y wants it.0 root wanted.1

  wants_of : (l : Id) → is_at_end (facts h v) l ≡ true → (y : Verdict) × (want (facts h v) l ≡ Some y)
  wants_of l e = some_is (want (facts h v) l) (and_left (is_some (want (facts h v) l)) _ (and_left (is_ended (facts h v) l) _ e))

  why : (l : Id) → is_at_end (facts h v) l ≡ true → (wants_cancel (want (facts h v) l) ≡ true) ⊎ (is_root_decided (facts h v) l ≡ true)
  why l e = or_cases (wants_cancel (want (facts h v) l)) (is_root_decided (facts h v) l) (and_right (is_ended (facts h v) l) _ e)

  -- no later decision changes what an LRA at its end wants
  pub end_wants : (l : Id) → is_at_end (facts h v) l ≡ true → want (facts h w) l ≡ want (facts h v) l
  end_wants l e = elim (why l e) [
    | inl cancels ↦ let wants = cancel_is (want (facts h v) l) cancels in cancel_kept l wants ∙ sym wants
    | inr decided ↦ let wants = wants_of l e in let it = met l decided in by_root l it.0 wants.0 wants.1 it.1
  ]

  -- a root that wants something wants something in the greater set too
  root_later : (l r : Id) (y : Verdict) → want (facts h v) l ≡ Some y → IsMet l r → is_root_decided (facts h w) l ≡ true
  root_later l r y wants it =
      let root = and_left (is_root (facts h v) r) _ it.1 in
      let wanted = some_is (want (facts h v) r) (and_right (is_root (facts h v) r) _ it.1) in
      let begun = wanted_begun h g.lawful v g.before r wanted.0 wanted.1 in
      let same = parent_both h g.lawful v w g.before g.after r begun (begun_later h v w g r begun) in
      let still : is_root (facts h w) r ≡ true = ap is_none (sym same) ∙ root in
      let some : is_some (want (facts h w) r) ≡ true = ap is_some (root_kept r root wanted.0 wanted.1) in
      let chained : In r (chain (facts h w) l) = subst (λ (c : List Id). In r c) (kept_chain h v w g l (wanted_begun h g.lawful v g.before l y wants)) it.0 in
      any_from (λ (a : Id). is_root (facts h w) a && is_some (want (facts h w) a)) (chain (facts h w) l) r chained (both_true _ _ still some)

  -- an LRA at its end is ended in the greater set too, and at its end there
  pub end_stays : (l : Id) → is_at_end (facts h v) l ≡ true → is_at_end (facts h w) l ≡ true
  end_stays l e =
      let S = facts h v in
      let T = facts h w in
      let wants = wants_of l e in
      let same = end_wants l e in
      let later : want T l ≡ Some wants.0 = same ∙ wants.1 in
      let closed : some_shows is_open S l ≡ false = not_false _ (and_right (is_some (want S l)) _ (and_left (is_ended S l) _ e)) in
      let shut : not (some_shows is_open T l) ≡ true = true_not _ (λ pending. let was = kept_open h v w g l wants.0 wants.1 later pending in let wrong : true ≡ false = sym was ∙ closed in cc) in
      let ended : is_ended T l ≡ true = both_true (is_some (want T l)) _ (ap is_some later) shut in
      both_true (is_ended T l) _ ended (elim (why l e) [
        | inl cancels ↦ left_or (wants_cancel (want T l)) _ (ap wants_cancel same ∙ cancels)
        | inr decided ↦ let it = met l decided in right_or (wants_cancel (want T l)) _ (root_later l it.0 wants.0 wants.1 it.1)
      ])
