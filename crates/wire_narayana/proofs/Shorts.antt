-- Texts that others begin with.
use Rattle.std.proofs.Common.{◌≡◌, ◌≢◌, ℕ, Bool, true, false, List, [], ◌∷◌, ◌++◌, sym, refl, ap, ◌∙◌, arith, drop}
use Rattle.std.specs.Prelude.{◌==◌, Option, Some, None, MatchOption, option_copied}
use Rattle.std.specs.Str.Pattern.{FindsTextPrefix, StripsPrefix}
use denote.Ref.{Bor}
use Rattle.wire_narayana.specs.Carrying.{behind}

-- what follows a text's beginning
pub behind_is : (n t : List ℕ) → behind n (n ++ t) ≡ Some t
unfolding behind
behind_is [] t = refl
behind_is (x ∷ n) t = grind (arith, behind_is n t)

none_by : (x b : ℕ) (n bs : List ℕ) (r : Bool) → (x == b) ≡ r → (x ≡ b → behind n bs ≡ None) → behind (x ∷ n) (b ∷ bs) ≡ None
unfolding behind
none_by x b n bs true e is = let same : x ≡ b = grind (arith, e) in rw e (is same)
none_by x b n bs false e is = rw e refl

-- if a text doesn't have this beginning, nothing follows it
pub behind_none : (n bs : List ℕ) → ((t : List ℕ) → bs ≢ n ++ t) → behind n bs ≡ None
unfolding behind
behind_none [] bs lacks = absurd (lacks bs refl)
behind_none (x ∷ n) [] lacks = refl
behind_none (x ∷ n) (b ∷ bs) lacks =
    none_by x b n bs (x == b) refl (λ same. behind_none n bs (λ t e. lacks t (ap (λ (l : List ℕ). b ∷ l) e ∙ ap (λ (y : ℕ). y ∷ (n ++ t)) (sym same))))

-- what std's search for a text's beginning returns
pub behind_by : (n s : List ℕ) (r : Option (Bor (List ℕ))) → MatchOption r (FindsTextPrefix n s None) (λ x. StripsPrefix (FindsTextPrefix n) s x.now) → option_copied r ≡ behind n s
behind_by n s None lacks = sym (behind_none n s lacks)
behind_by n s (Some x) (k, (_, is, _), e, _) = ap Some e ∙ sym (ap (behind n) is ∙ behind_is n (drop k s))
