-- Where a text is split.
use Rattle.std.proofs.Common.{◌≡◌, ℕ, zero, suc, ◌<◌, ◌==◌, Bool, true, false, cond, List, [], ◌∷◌, ◌++◌, length, take, drop, get_or, refl, ap, ◌∙◌, arith}
use Rattle.std.proofs.lemmas.Bool.Decides.{Decides-eqb}
use Rattle.script_lines.specs.LineParts.{HasNone, onto_first, parts}

pub HasNone-push : (at : ℕ) (bs : List ℕ) (b : ℕ) → HasNone at bs → (b == at) ≡ false → HasNone at (bs ++ b ∷ [])
HasNone-push at [] b h e = (e, tt)
HasNone-push at (x ∷ bs) b h e = (h.0, HasNone-push at bs b h.1 e)

not_true : (t : Bool) → (t ≡ true → ⊥) → t ≡ false
not_true true h = absurd (h refl)
not_true false h = refl

pub differs : (b at : ℕ) → (b ≡ at → ⊥) → (b == at) ≡ false
differs b at h = not_true (b == at) (λ e. h ((Decides-eqb b at).0 e))

same_is : (b at : ℕ) → b ≡ at → (b == at) ≡ true
same_is b at e = (Decides-eqb b at).1 e

-- the part before the first such byte, and those after it
pub parts_whole : (at : ℕ) (part rest : List ℕ) → HasNone at part → parts at (part ++ at ∷ rest) ≡ part ∷ parts at rest
parts_whole at [] rest h = ap (λ (t : Bool). cond t ([] ∷ parts at rest) (onto_first at (parts at rest))) (same_is at at refl)
parts_whole at (b ∷ part) rest h =
    ap (λ (t : Bool). cond t ([] ∷ parts at (part ++ at ∷ rest)) (onto_first b (parts at (part ++ at ∷ rest)))) h.0
    ∙ ap (onto_first b) (parts_whole at part rest h.1)

pub parts_last : (at : ℕ) (part : List ℕ) → HasNone at part → parts at part ≡ part ∷ []
parts_last at [] h = refl
parts_last at (b ∷ part) h =
    ap (λ (t : Bool). cond t ([] ∷ parts at part) (onto_first b (parts at part))) h.0 ∙ ap (onto_first b) (parts_last at part h.1)

onto_some : (b : ℕ) (ps : List (List ℕ)) → onto_first b ps ≡ [] → ⊥
onto_some b [] e = absurd cc
onto_some b (p ∷ ps) e = absurd cc

some_at : (t : Bool) (b : ℕ) (ps : List (List ℕ)) → cond t ([] ∷ ps) (onto_first b ps) ≡ [] → ⊥
some_at true b ps e = absurd cc
some_at false b ps e = onto_some b ps e

-- a text has a part
pub parts_some : (at : ℕ) (bs : List ℕ) → parts at bs ≡ [] → ⊥
parts_some at [] e = absurd cc
parts_some at (b ∷ bs) e = some_at (b == at) b (parts at bs) e

-- the same, given the place of the first such byte
pub parts_at : (at : ℕ) (text : List ℕ) (i : ℕ) → i < length text → ((k : ℕ) → k < i → get_or text k 0 ≡ at → ⊥) → get_or text i 0 ≡ at
    → parts at text ≡ take i text ∷ parts at (drop (suc i) text)
parts_at at [] i h none e = absurd (omega (arith, h))
parts_at at (b ∷ bs) zero h none e = ap (λ (t : Bool). cond t ([] ∷ parts at bs) (onto_first b (parts at bs))) (same_is b at e)
parts_at at (b ∷ bs) (suc i) h none e =
    ap (λ (t : Bool). cond t ([] ∷ parts at bs) (onto_first b (parts at bs))) (differs b at (none 0 (omega arith)))
    ∙ ap (onto_first b) (parts_at at bs i (omega (arith, h)) (λ k lt. none (suc k) (omega (arith, lt))) e)

pub parts_none : (at : ℕ) (text : List ℕ) → ((k : ℕ) → k < length text → get_or text k 0 ≡ at → ⊥) → parts at text ≡ text ∷ []
parts_none at [] none = refl
parts_none at (b ∷ bs) none =
    ap (λ (t : Bool). cond t ([] ∷ parts at bs) (onto_first b (parts at bs))) (differs b at (none 0 (omega arith)))
    ∙ ap (onto_first b) (parts_none at bs (λ k lt. none (suc k) (omega (arith, lt))))
