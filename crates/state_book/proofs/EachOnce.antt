-- A close finds nothing strange exactly if each entry and each receipt is there once.
use Rattle.std.proofs.Common.{◌≡◌, ◌+◌, ◌==◌, ◌↔◌, ◌∙◌, ℕ, Bool, true, false, List, [], ◌∷◌, Option, Some, None, if◌then◌else◌, count_by, refl, ap, arith}
use Rattle.std.proofs.lemmas.Bool.Decides.{nat_tests}
use Rattle.state_book.specs.declared.calls.Entry.{Entry}
use Rattle.state_book.specs.declared.calls.Receipt.{Receipt}
use Rattle.state_book.specs.Desks.{AreNamedOnce, IsEachOnce, first_strange, first_stray, names, strange_at, strange_of}
use Rattle.state_book.specs.Trails.{AllStand, stands}

is_one : (n : ℕ) → (n == 1) ≡ true → n ≡ 1
is_one n e = grind (arith, nat_tests, e)

named : (i : ℕ) (es : List Entry) (rs : List Receipt) → first_strange i es rs ≡ None → AreNamedOnce i es rs
named i [] rs e = tt
named i (x ∷ es) rs e = by (count_by (names i x) rs == 1) refl (named (i + 1) es rs) e
  where
    by : (b : Bool) → (count_by (names i x) rs == 1) ≡ b → (first_strange (i + 1) es rs ≡ None → AreNamedOnce (i + 1) es rs) → (if b then first_strange (i + 1) es rs else Some i) ≡ None
        → (count_by (names i x) rs ≡ 1) × AreNamedOnce (i + 1) es rs
    by true so rest none = (is_one (count_by (names i x) rs) so, rest none)
    by false so rest none = absurd cc

once : (i : ℕ) (es : List Entry) (rs : List Receipt) → AreNamedOnce i es rs → first_strange i es rs ≡ None
once i [] rs is = refl
once i (x ∷ es) rs is = ap (λ (n : ℕ). if n == 1 then first_strange (i + 1) es rs else Some i) is.0 ∙ once (i + 1) es rs is.1

stand : (t : List Entry) (rs : List Receipt) → first_stray t rs ≡ None → AllStand t rs
stand t [] e = tt
stand t (r ∷ rs) e = by (stands t r) refl (stand t rs) e
  where
    by : (b : Bool) → stands t r ≡ b → (first_stray t rs ≡ None → AllStand t rs) → (if b then first_stray t rs else Some r.index) ≡ None → (stands t r ≡ true) × AllStand t rs
    by true so rest none = (so, rest none)
    by false so rest none = absurd cc

none_stray : (t : List Entry) (rs : List Receipt) → AllStand t rs → first_stray t rs ≡ None
none_stray t [] is = refl
none_stray t (r ∷ rs) is = ap (λ (b : Bool). if b then first_stray t rs else Some r.index) is.0 ∙ none_stray t rs is.1

nothing : (a b : Option ℕ) → strange_at a b ≡ None → (a ≡ None) × (b ≡ None)
nothing (Some i) b e = absurd cc
nothing None (Some i) e = absurd cc
nothing None None e = (refl, refl)

pub each_once : (t : List Entry) (rs : List Receipt) → (strange_of t rs ≡ None) ↔ IsEachOnce t rs
each_once t rs = (
  λ e. let both = nothing (first_strange 0 t rs) (first_stray t rs) e in record { entries = named 0 t rs both.0; receipts = stand t rs both.1 },
  λ is. ap (λ a. strange_at a (first_stray t rs)) (once 0 t rs is.entries) ∙ ap (λ b. strange_at None b) (none_stray t rs is.receipts),
)
