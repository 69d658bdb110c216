-- What a close finds, going through the passes one after another.
use Rattle.std.proofs.Common.{◌≡◌, ℕ, ◌+◌, ◌<◌, ◌==◌, suc, List, [], ◌∷◌, ◌++◌, length, drop, get_or, Bool, true, false, Some, None, if◌then◌else◌, refl, sym, ap, ◌∙◌, drop-cons, add-one, count_by, sum_by, flat_map}
use Rattle.std.proofs.lemmas.List.Sums.{sum_by-append, sum_by-cons}
use Rattle.std.specs.Prelude.{cond}
use Rattle.state_book.specs.declared.calls.Entry.{Entry}
use Rattle.state_book.specs.declared.calls.Receipt.{Receipt}
use Rattle.state_book.specs.Trails.{stands}
use Rattle.state_book.specs.Desks.{names, first_strange, first_stray}

-- the number of receipts in all passes that pass a test
named_sum : {X : Type 0} (f : X → List Receipt) (q : Receipt → Bool) (ps : List X) → sum_by (λ p. count_by q (f p)) ps ≡ count_by q (flat_map f ps)
named_sum f q [] = refl
named_sum f q (p ∷ ps) = sum_by-cons (λ p. count_by q (f p)) p ps ∙ ap (λ n. count_by q (f p) + n) (named_sum f q ps) ∙ sym (sum_by-append (λ x. cond (q x) 1 0) (f p) (flat_map f ps))

-- the search from an entry on depends on whether exactly one receipt names that entry
pub strange_at_entry : {X : Type 0} (f : X → List Receipt) (t : List Entry) (ps : List X) (i : ℕ) (e : Entry) (b : Bool) → i < length t → e ≡ get_or t i e
    → (sum_by (λ p. count_by (names i e) (f p)) ps == 1) ≡ b
    → first_strange i (drop i t) (flat_map f ps) ≡ (if b then first_strange (i + 1) (drop (i + 1) t) (flat_map f ps) else Some i)
strange_at_entry f t ps i e b lt here is =
    ap (λ l. first_strange i l (flat_map f ps)) (drop-cons t i e lt ∙ ap (λ (x : Entry). x ∷ drop (suc i) t) (sym here) ∙ ap (λ n. e ∷ drop n t) (sym (add-one i)))
    ∙ ap (λ c. if c then first_strange (i + 1) (drop (i + 1) t) (flat_map f ps) else Some i) (ap (λ n. n == 1) (sym (named_sum f (names i e) ps)) ∙ is)

stray_some : (t : List Entry) (xs ys : List Receipt) (k : ℕ) → first_stray t xs ≡ Some k → first_stray t (xs ++ ys) ≡ Some k
stray_some t [] ys k is = absurd (cc)
stray_some t (x ∷ xs) ys k is = by (stands t x) (stray_some t xs ys k) is
  where
    by : (b : Bool) → (first_stray t xs ≡ Some k → first_stray t (xs ++ ys) ≡ Some k) → (if b then first_stray t xs else Some x.index) ≡ Some k → (if b then first_stray t (xs ++ ys) else Some x.index) ≡ Some k
    by true rest is' = rest is'
    by false rest is' = is'

stray_none : (t : List Entry) (xs ys : List Receipt) → first_stray t xs ≡ None → first_stray t (xs ++ ys) ≡ first_stray t ys
stray_none t [] ys is = refl
stray_none t (x ∷ xs) ys is = by (stands t x) (stray_none t xs ys) is
  where
    by : (b : Bool) → (first_stray t xs ≡ None → first_stray t (xs ++ ys) ≡ first_stray t ys) → (if b then first_stray t xs else Some x.index) ≡ None → (if b then first_stray t (xs ++ ys) else Some x.index) ≡ first_stray t ys
    by true rest is' = rest is'
    by false rest is' = absurd (cc)

pub stray_found : {X : Type 0} (f : X → List Receipt) (t : List Entry) (ps : List X) (i : ℕ) (p : X) (k : ℕ) → i < length ps → p ≡ get_or ps i p → first_stray t (f p) ≡ Some k → first_stray t (flat_map f (drop i ps)) ≡ Some k
stray_found f t ps i p k lt here is =
    ap (λ l. first_stray t (flat_map f l)) (drop-cons ps i p lt ∙ ap (λ (x : _). x ∷ drop (suc i) ps) (sym here)) ∙ stray_some t (f p) (flat_map f (drop (suc i) ps)) k is

pub stray_passed : {X : Type 0} (f : X → List Receipt) (t : List Entry) (ps : List X) (i : ℕ) (p : X) → i < length ps → p ≡ get_or ps i p → first_stray t (f p) ≡ None → first_stray t (flat_map f (drop (i + 1) ps)) ≡ first_stray t (flat_map f (drop i ps))
stray_passed f t ps i p lt here is =
    ap (λ n. first_stray t (flat_map f (drop n ps))) (add-one i)
    ∙ sym (ap (λ l. first_stray t (flat_map f l)) (drop-cons ps i p lt ∙ ap (λ (x : _). x ∷ drop (suc i) ps) (sym here)) ∙ stray_none t (f p) (flat_map f (drop (suc i) ps)) is)
