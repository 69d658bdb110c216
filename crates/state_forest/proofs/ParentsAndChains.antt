-- parents and chains
use Rattle.std.proofs.Common.{◌≡◌, ◌<◌, List, [], ◌∷◌, refl, ap, ◌∙◌, Bool, true, false, cond, arith, Option, Some, None}
use Rattle.std.specs.List.{AllByRecursion}
use Rattle.std.specs.Option.{option_map_or}
use Rattle.state_ids.specs.Ids.{Id}
use Rattle.state_facts.specs.declared.fact.Fact.{Fact}
use Rattle.state_facts.specs.Sets.{begins, parent_named, parent_of, chain, NamesEarlier}
use Rattle.state_facts.proofs.Chains.{chain_is}

pub begins_at : (l : Id) (f : Fact) → begins l f ≡ true → (f.origin ≡ l.home) × (f.num ≡ l.num)
begins_at l f e = grind (arith, e)

-- a parent has the same home as its child
pub parent_home : (S : List Fact) (l p : Id) → AllByRecursion NamesEarlier S → parent_of S l ≡ Some p → p.home ≡ l.home
parent_home [] l p h e = absurd cc
parent_home (f ∷ S) l p h e = home_at f l p (parent_of S l) h.0 (parent_home S l p h.1) (begins l f) refl e
  where
    home_at : (f : Fact) (l p : Id) (above : Option Id) → NamesEarlier f → (above ≡ Some p → p.home ≡ l.home) → (b : Bool) → begins l f ≡ b → cond b (parent_named f.body) above ≡ Some p → p.home ≡ l.home
    home_at f l p above h rest true at e =
        let named : (p.home ≡ f.origin) × (p.num < f.num) = rw e at h in named.0 ∙ (begins_at l f at).0
    home_at f l p above h rest false at e = rest e

-- the chain of an LRA is the LRA itself and the chain of its parent
pub chain_up : (S : List Fact) → AllByRecursion NamesEarlier S → (l p : Id) → parent_of S l ≡ Some p → chain S l ≡ l ∷ chain S p
chain_up S nested l p e = chain_is S nested l ∙ ap (λ above. l ∷ option_map_or (chain S) above []) e

pub chain_root : (S : List Fact) → AllByRecursion NamesEarlier S → (l : Id) → parent_of S l ≡ None → chain S l ≡ l ∷ []
chain_root S nested l e = chain_is S nested l ∙ ap (λ above. l ∷ option_map_or (chain S) above []) e
