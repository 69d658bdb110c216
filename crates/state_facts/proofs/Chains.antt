-- the parent and the chain of an LRA
use Rattle.std.proofs.Common.{◌≡◌, ◌||◌, ◌+◌, ◌<◌, ◌≤◌, ℕ, zero, suc, Bool, true, false, Option, Some, None, List, [], ◌∷◌, refl, ap, sym, ◌∙◌, arith, cond, length, drop, get_or}
use Rattle.std.specs.List.{list_any, AllByRecursion}
use Rattle.std.specs.Option.{option_map_or}
use Rattle.std.proofs.lemmas.List.{drop_more}
use Rattle.state_ids.specs.Ids.{Id}
use Rattle.state_facts.specs.declared.fact.Fact.{Fact}
use Rattle.state_facts.specs.Sets.{begins, parent_named, parent_of, chain_within, chain, depth, NamesEarlier}

-- the rest of a list from a place on begins with the element that was read there
pub drop_at : {X : Type 0} (xs : List X) (i : ℕ) (x : X) → i < length xs → x ≡ get_or xs i x → drop i xs ≡ x ∷ drop (i + 1) xs
drop_at xs i x h e = drop_more xs i x h ∙ ap (λ y. y ∷ drop (i + 1) xs) (sym e)

-- the parent that a Begin names has a lesser number
begin_lesser : (f : Fact) (l p : Id) → begins l f ≡ true → NamesEarlier f → parent_named f.body ≡ Some p → p.num < l.num
begin_lesser f l p b h e =
    let named : (p.home ≡ f.origin) × (p.num < f.num) = rw e at h in
    let same : f.num ≡ l.num = grind (arith, b) in
    omega (arith, named.1, same)

lesser_at : (f : Fact) (l p : Id) (above : Option Id) → NamesEarlier f → (above ≡ Some p → p.num < l.num) → (b : Bool) → begins l f ≡ b → cond b (parent_named f.body) above ≡ Some p → p.num < l.num
lesser_at f l p above h rest true b e = begin_lesser f l p b h e
lesser_at f l p above h rest false b e = rest e

pub parent_lesser : (S : List Fact) (l p : Id) → AllByRecursion NamesEarlier S → parent_of S l ≡ Some p → p.num < l.num
parent_lesser [] l p h e = absurd cc
parent_lesser (f ∷ S) l p h e = lesser_at f l p (parent_of S l) h.0 (parent_lesser S l p h.1) (begins l f) refl e

-- the rest of two chains is the same if the functions agree on the parent, which has a lesser
-- number, or if there is no parent
pub same_rest : (l : Id) (f g : Id → List Id) (above : Option Id) → ((p : Id) → above ≡ Some p → f p ≡ g p) → option_map_or f above [] ≡ option_map_or g above []
same_rest l f g None h = refl
same_rest l f g (Some p) h = h p refl

no_rest : (f : Id → List Id) (above : Option Id) → ((p : Id) → above ≡ Some p → ⊥) → option_map_or f above [] ≡ []
no_rest f None h = refl
no_rest f (Some p) h = absurd (h p refl)

-- more steps than the LRA's number change nothing
pub chain_enough : (S : List Fact) → AllByRecursion NamesEarlier S → (n m : ℕ) (l : Id) → l.num ≤ n → l.num ≤ m → chain_within n S l ≡ chain_within m S l
chain_enough S h zero zero l a b = refl
chain_enough S h zero (suc m) l a b =
    ap (λ c. l ∷ c) (sym (no_rest (chain_within m S) (parent_of S l) (λ p e. omega (arith, parent_lesser S l p h e))))
chain_enough S h (suc n) zero l a b =
    ap (λ c. l ∷ c) (no_rest (chain_within n S) (parent_of S l) (λ p e. omega (arith, parent_lesser S l p h e)))
chain_enough S h (suc n) (suc m) l a b =
    ap (λ c. l ∷ c) (same_rest l (chain_within n S) (chain_within m S) (parent_of S l) (λ p e.
    let lesser : p.num < l.num = parent_lesser S l p h e in
    chain_enough S h n m p (omega arith) (omega arith)))

pub chain_is : (S : List Fact) → AllByRecursion NamesEarlier S → (l : Id) → chain S l ≡ l ∷ option_map_or (chain S) (parent_of S l) []
chain_is S h l =
    chain_enough S h l.num (suc l.num) l (omega arith) (omega arith)
    ∙ ap (λ c. l ∷ c) (same_rest l (chain_within l.num S) (chain S) (parent_of S l) (λ p e.
    let lesser : p.num < l.num = parent_lesser S l p h e in
    chain_enough S h l.num p.num p (omega arith) (omega arith)))

-- a test along the chain looks at its first LRA and at the rest
pub chain_any : (S : List Fact) → AllByRecursion NamesEarlier S → (test : Id → Bool) (l : Id) → list_any test (chain S l) ≡ (test l || list_any test (option_map_or (chain S) (parent_of S l) []))
chain_any S h test l = ap (list_any test) (chain_is S h l)

-- the depth is one more than that of the parent
pub depth_is : (S : List Fact) → AllByRecursion NamesEarlier S → (l : Id) → depth S l ≡ length (option_map_or (chain S) (parent_of S l) []) + 1
depth_is S h l = omega (arith, ap length (chain_is S h l))
