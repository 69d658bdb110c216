-- which bytes of a link are kept
use Rattle.std.proofs.Common.{◌≡◌, ◌&&◌, ℕ, List, Bool, true, false, Option, Some, None, cond, refl, sym, ap, ◌∙◌}
use Rattle.std.specs.Str.{IsUtf8, is_utf8}
use Rattle.std.proofs.lemmas.Str.{IsUtf8-from_is_utf8, is_utf8-from_IsUtf8}
use Rattle.std.proofs.lemmas.Slice.Eq.{bytes_eq-Decides}
use Rattle.state_facts.specs.LinkTexts.{is_kept, is_same, kept_text}

both : (a b : Bool) → a ≡ true → b ≡ true → (a && b) ≡ true
both true true e f = refl
both true false e f = absurd cc
both false b e f = absurd cc

none_by : (t : List ℕ) (a b : Bool) → (a ≡ true → ⊥) → None ≡ cond (a && b) (Some t) None
none_by t true b h = absurd (h refl)
none_by t false b h = refl

pub no_text : (t : List ℕ) → (IsUtf8 t → ⊥) → None ≡ cond (is_kept t) (Some t) None
unfolding is_kept
no_text t h = none_by t (is_utf8 t) (is_same (kept_text t) t) (λ e. h (IsUtf8-from_is_utf8 t e))

pub one_kept : (t s link : List ℕ) → s ≡ t → IsUtf8 t → kept_text s ≡ Some link → link ≡ s → Some link ≡ cond (is_kept t) (Some t) None
unfolding is_kept
one_kept t s link e utf8 kept same =
    let all : link ≡ t = same ∙ e in
    let one : is_same (kept_text t) t ≡ true = ap (λ (x : List ℕ). is_same (kept_text x) t) (sym e) ∙ ap (λ (o : Option (List ℕ)). is_same o t) kept ∙ (bytes_eq-Decides link t).1 all in
    ap (λ (x : List ℕ). Some x) all ∙ ap (λ (b : Bool). cond b (Some t) None) (sym (both (is_utf8 t) (is_same (kept_text t) t) (is_utf8-from_IsUtf8 t utf8) one))

-- a link whose kept text is the link itself is kept as it is
pub kept_is : (t : List ℕ) → IsUtf8 t → kept_text t ≡ Some t → is_kept t ≡ true
unfolding is_kept
kept_is t utf8 kept = both (is_utf8 t) (is_same (kept_text t) t) (is_utf8-from_IsUtf8 t utf8) (ap (λ (o : Option (List ℕ)). is_same o t) kept ∙ (bytes_eq-Decides t t).1 refl)
