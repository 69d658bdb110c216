-- one member changed
use Rattle.std.proofs.Common.{◌≡◌, ◌≤◌, ◌-◌, ◌==◌, ℕ, zero, suc, List, [], ◌∷◌, refl, ap, Bool, true, false, cond, arith, Some, None, slice_get, set}
use Rattle.std.proofs.lemmas.Bool.Decides.{nat_tests}
use Rattle.state_forest.specs.declared.record.Member.{Member}
use Rattle.state_forest.specs.MembersByNumber.{numbered}
use Rattle.theory_history.specs.Growth.{member_changed}

-- if there is a member at the place, it is replaced
pub change_some : (g : Member → Member) (i : ℕ) (ms : List Member) (m : Member) → slice_get ms i ≡ Some m → member_changed g i ms ≡ set ms i (g m)
change_some g i [] m e = absurd cc
change_some g zero (x ∷ ms) m e = let same : x ≡ m = cc in ap (λ (y : Member). g y ∷ ms) same
change_some g (suc i) (x ∷ ms) m e = ap (λ (ys : List Member). x ∷ ys) (change_some g i ms m e)

-- if there is none, the members stay as they are
pub change_none : (g : Member → Member) (i : ℕ) (ms : List Member) → slice_get ms i ≡ None → member_changed g i ms ≡ ms
change_none g i [] e = refl
change_none g zero (x ∷ ms) e = absurd cc
change_none g (suc i) (x ∷ ms) e = ap (λ (ys : List Member). x ∷ ys) (change_none g i ms e)

-- member numbers start at 1
pub numbered_is : (ms : List Member) (m : ℕ) → 1 ≤ m → numbered ms m ≡ slice_get ms (m - 1)
numbered_is ms m some = by (m == 0) refl
  where
    by : (b : Bool) → (m == 0) ≡ b → cond b None (slice_get ms (m - 1)) ≡ slice_get ms (m - 1)
    by true t = absurd (grind (arith, nat_tests, t, some))
    by false t = refl
