-- chains: what is in them, and when two sets have the same chains
use Rattle.std.proofs.Common.{◌≡◌, ◌⊎◌, inl, inr, ◌≤◌, ℕ, zero, suc, List, [], ◌∷◌, refl, sym, ap, subst, ◌∙◌, arith, Option, Some, None}
use Rattle.std.specs.List.{AllByRecursion}
use Rattle.std.specs.Option.{option_map_or}
use Rattle.state_ids.specs.Ids.{Id}
use Rattle.state_facts.specs.declared.fact.Fact.{Fact}
use Rattle.state_facts.specs.Lists.{In}
use Rattle.state_facts.specs.Sets.{NamesEarlier, chain, chain_within, parent_of}
use Rattle.state_facts.proofs.Chains.{chain_enough, parent_lesser, same_rest}
use Rattle.state_forest.proofs.ParentsAndChains.{parent_home}
use Rattle.theory_history.proofs.Basics.{own_in_chain}

rest_goes : (f : Id → List Id) (a b : Id) (above : Option Id) → ((p : Id) → above ≡ Some p → In a (f p) → In b (f p)) → In a (option_map_or f above []) → In b (option_map_or f above [])
rest_goes f a b None h m = absurd m
rest_goes f a b (Some p) h m = h p refl m

-- whatever is in the chain of an LRA of a chain is in that chain
chain_goes_within : (S : List Fact) → AllByRecursion NamesEarlier S → (n : ℕ) (d l a : Id) → d.num ≤ n → In l (chain_within n S d) → In a (chain S l) → In a (chain_within n S d)
chain_goes_within S nested zero d l a b (inl s) g = subst (λ c. In a c) (ap (chain S) s ∙ chain_enough S nested d.num zero d (omega arith) b) g
chain_goes_within S nested zero d l a b (inr m) g = absurd m
chain_goes_within S nested (suc n) d l a b (inl s) g = subst (λ c. In a c) (ap (chain S) s ∙ chain_enough S nested d.num (suc n) d (omega arith) b) g
chain_goes_within S nested (suc n) d l a b (inr m) g =
    inr (rest_goes (chain_within n S) l a (parent_of S d) (λ p e k.
    chain_goes_within S nested n p l a (omega (arith, parent_lesser S d p nested e)) k g) m)

-- the chain of an LRA of a chain is a part of that chain
pub chain_goes : (S : List Fact) → AllByRecursion NamesEarlier S → (d l a : Id) → In l (chain S d) → In a (chain S l) → In a (chain S d)
chain_goes S nested d l a m g = chain_goes_within S nested d.num d l a (omega arith) m g

order_rest : (f : Id → List Id) (G : Type 0) (a l : Id) (above : Option Id) → ((p : Id) → above ≡ Some p → In a (f p) → In l (f p) → G) → In a (option_map_or f above []) → In l (option_map_or f above []) → G
order_rest f G a l None h m k = absurd m
order_rest f G a l (Some p) h m k = h p refl m k

chain_order_within : (S : List Fact) → AllByRecursion NamesEarlier S → (n : ℕ) (d a l : Id) → d.num ≤ n → In a (chain_within n S d) → In l (chain_within n S d) → In a (chain S l) ⊎ In l (chain S a)
chain_order_within S nested zero d a l b (inl s) (inl t) = inl (subst (λ x. In a (chain S x)) (s ∙ sym t) (own_in_chain S a.num a))
chain_order_within S nested zero d a l b (inl s) (inr k) = absurd k
chain_order_within S nested zero d a l b (inr m) k = absurd m
chain_order_within S nested (suc n) d a l b m (inl t) = inl (subst (λ c. In a c) (chain_enough S nested (suc n) d.num d b (omega arith) ∙ ap (chain S) (sym t)) m)
chain_order_within S nested (suc n) d a l b (inl s) (inr k) = inr (subst (λ c. In l c) (chain_enough S nested (suc n) d.num d b (omega arith) ∙ ap (chain S) (sym s)) (inr k))
chain_order_within S nested (suc n) d a l b (inr m) (inr k) =
    order_rest (chain_within n S) (In a (chain S l) ⊎ In l (chain S a)) a l (parent_of S d) (λ p e x y.
    chain_order_within S nested n p a l (omega (arith, parent_lesser S d p nested e)) x y) m k

-- of two LRAs in a chain, one is in the chain of the other
pub chain_order : (S : List Fact) → AllByRecursion NamesEarlier S → (d a l : Id) → In a (chain S d) → In l (chain S d) → In a (chain S l) ⊎ In l (chain S a)
chain_order S nested d a l m k = chain_order_within S nested d.num d a l (omega arith) m k

-- two sets that agree on the parents of the LRAs of a kind, to which each such parent belongs,
-- agree on their chains
pub same_chain_on : (D : Id → Type 0) (S T : List Fact) → ((l : Id) → D l → parent_of S l ≡ parent_of T l) → ((l p : Id) → D l → parent_of S l ≡ Some p → D p) → (n : ℕ) (l : Id) → D l → chain_within n S l ≡ chain_within n T l
same_chain_on D S T same up zero l d = refl
same_chain_on D S T same up (suc n) l d =
    ap (λ c. l ∷ c) (same_rest l (chain_within n S) (chain_within n T) (parent_of S l) (λ p e. same_chain_on D S T same up n p (up l p d e))
    ∙ ap (λ above. option_map_or (chain_within n T) above []) (same l d))

along_rest : (D : Id → Type 0) (f : Id → List Id) (a : Id) (above : Option Id) → ((p : Id) → above ≡ Some p → In a (f p) → D a) → In a (option_map_or f above []) → D a
along_rest D f a None h m = absurd m
along_rest D f a (Some p) h m = h p refl m

-- a property that passes from an LRA to its parent holds along its chain
pub along_chain : (D : Id → Type 0) (S : List Fact) → ((l p : Id) → D l → parent_of S l ≡ Some p → D p) → (n : ℕ) (l : Id) → D l → (a : Id) → In a (chain_within n S l) → D a
along_chain D S up zero l d a (inl s) = subst D (sym s) d
along_chain D S up zero l d a (inr m) = absurd m
along_chain D S up (suc n) l d a (inl s) = subst D (sym s) d
along_chain D S up (suc n) l d a (inr m) = along_rest D (chain_within n S) a (parent_of S l) (λ p e. along_chain D S up n p (up l p d e) a) m

-- all LRAs of a chain are of one home
pub chain_home : (S : List Fact) → AllByRecursion NamesEarlier S → (l a : Id) → In a (chain S l) → a.home ≡ l.home
chain_home S nested l a m = along_chain (λ d. d.home ≡ l.home) S (λ d p h e. parent_home S d p nested e ∙ h) l.num l refl a m
