-- what more facts leave as it was
use Rattle.std.proofs.Common.{◌≡◌, inl, inr, ◌<◌, ℕ, zero, suc, List, [], ◌∷◌, ◌++◌, refl, sym, ap, ◌∙◌, Bool, true, false, cond, arith, Option, Some, None}
use Rattle.std.specs.List.{list_any, AllByRecursion}
use Rattle.std.specs.Option.{option_map_or}
use Rattle.state_ids.specs.Ids.{Id}
use Rattle.state_ids.specs.States.{greater}
use Rattle.state_ids.specs.declared.outcome.Act.{Act}
use Rattle.state_ids.specs.declared.outcome.Outcome.{Outcome}
use Rattle.state_ids.specs.declared.outcome.Outcome.TheVariants.{Busy, Done, Failed}
use Rattle.state_ids.specs.declared.outcome.Verdict.TheVariants.{Cancel}
use Rattle.state_facts.specs.declared.fact.Fact.{Fact}
use Rattle.state_facts.specs.Lists.{In}
use Rattle.state_facts.specs.Laws.{Falls}
use Rattle.state_facts.specs.Sets.{begins, parent_named, parent_of, chain_within, chain, is_decided, is_decision, want, reported, heard, NamesEarlier}
use Rattle.state_facts.proofs.Membership.{any_from, any_inside}
use Rattle.state_facts.proofs.Chains.{parent_lesser}

parent_at : (f : Fact) (l p : Id) (S T : List Fact) → (parent_of S l ≡ Some p → parent_of T l ≡ Some p) → (b : Bool) → cond b (parent_named f.body) (parent_of S l) ≡ Some p → cond b (parent_named f.body) (parent_of T l) ≡ Some p
parent_at f l p S T rest true e = e
parent_at f l p S T rest false e = rest e

-- a parent that a fact names stays the same
pub parent_stays : (S later : List Fact) (l p : Id) → parent_of S l ≡ Some p → parent_of (S ++ later) l ≡ Some p
parent_stays [] later l p e = absurd cc
parent_stays (f ∷ S) later l p e = parent_at f l p S (S ++ later) (parent_stays S later l p) (begins l f) e

rest_in : (f g : Id → List Id) (a : Id) (above more : Option Id) → ((p : Id) → above ≡ Some p → more ≡ Some p) → ((p : Id) → above ≡ Some p → In a (f p) → In a (g p)) → In a (option_map_or f above []) → In a (option_map_or g more [])
rest_in f g a None more stays goes m = absurd m
rest_in f g a (Some p) more stays goes m = let at = stays p refl in rw at (goes p refl m)

-- and an LRA in a chain stays in it
pub in_chain_stays : (S later : List Fact) (n : ℕ) (l a : Id) → In a (chain_within n S l) → In a (chain_within n (S ++ later) l)
in_chain_stays S later zero l a m = m
in_chain_stays S later (suc n) l a (inl s) = inl s
in_chain_stays S later (suc n) l a (inr m) =
    inr (rest_in (chain_within n S) (chain_within n (S ++ later)) a (parent_of S l) (parent_of (S ++ later) l) (λ p e. parent_stays S later l p e)
    (λ p e. in_chain_stays S later n p a) m)

in_front : {X : Type 0} (xs ys : List X) (x : X) → In x xs → In x (xs ++ ys)
in_front [] ys x m = absurd m
in_front (y ∷ xs) ys x (inl s) = inl s
in_front (y ∷ xs) ys x (inr m) = inr (in_front xs ys x m)

-- an LRA that has a cancelled LRA in its chain wants Cancel, whatever comes later
pub cancel_stays : (S later : List Fact) (a l : Id) → In a (chain S l) → is_decided S Cancel a ≡ true → want (S ++ later) l ≡ Some Cancel
cancel_stays S later a l m e =
    let T : List Fact = S ++ later in
    let decided : is_decided T Cancel a ≡ true = any_inside (λ f. is_decision a Cancel f.body) S T (λ f n. in_front S later f n) e in
    let found : list_any (is_decided T Cancel) (chain T l) ≡ true = any_from (is_decided T Cancel) (chain T l) a (in_chain_stays S later l.num l a m) decided in
    rw found refl

-- the greater of outcomes is the same in any grouping
pub greater_assoc : (a b c : Option Outcome) → greater (greater a b) c ≡ greater a (greater b c)
greater_assoc None b c = refl
greater_assoc (Some Busy) None c = refl
greater_assoc (Some Busy) (Some Busy) None = refl
greater_assoc (Some Busy) (Some Done) None = refl
greater_assoc (Some Busy) (Some Failed) None = refl
greater_assoc (Some Busy) (Some Busy) (Some c) = refl
greater_assoc (Some Busy) (Some Done) (Some Busy) = refl
greater_assoc (Some Busy) (Some Done) (Some Done) = refl
greater_assoc (Some Busy) (Some Done) (Some Failed) = refl
greater_assoc (Some Busy) (Some Failed) (Some c) = refl
greater_assoc (Some Done) None None = refl
greater_assoc (Some Done) None (Some Busy) = refl
greater_assoc (Some Done) None (Some Done) = refl
greater_assoc (Some Done) None (Some Failed) = refl
greater_assoc (Some Done) (Some Busy) None = refl
greater_assoc (Some Done) (Some Busy) (Some c) = refl
greater_assoc (Some Done) (Some Done) None = refl
greater_assoc (Some Done) (Some Done) (Some Busy) = refl
greater_assoc (Some Done) (Some Done) (Some Done) = refl
greater_assoc (Some Done) (Some Done) (Some Failed) = refl
greater_assoc (Some Done) (Some Failed) None = refl
greater_assoc (Some Done) (Some Failed) (Some c) = refl
greater_assoc (Some Failed) b c = refl

-- the outcome that two lists together have heard is the greater of the two
pub heard_append : (S T : List Fact) (l : Id) (m : ℕ) (act : Act) → heard (S ++ T) l m act ≡ greater (heard S l m act) (heard T l m act)
heard_append [] T l m act = refl
heard_append (f ∷ S) T l m act =
    ap (greater (reported l m act f.body)) (heard_append S T l m act) ∙ sym (greater_assoc (reported l m act f.body) (heard S l m act) (heard T l m act))

-- a parent has the same home as its child
pub parent_home : (S : List Fact) (l p : Id) → AllByRecursion NamesEarlier S → parent_of S l ≡ Some p → p.home ≡ l.home
parent_home [] l p h e = absurd cc
parent_home (f ∷ S) l p h e = home_at f l p (parent_of S l) h.0 (parent_home S l p h.1) (begins l f) refl e
  where
    home_at : (f : Fact) (l p : Id) (above : Option Id) → NamesEarlier f → (above ≡ Some p → p.home ≡ l.home) → (b : Bool) → begins l f ≡ b → cond b (parent_named f.body) above ≡ Some p → p.home ≡ l.home
    home_at f l p above h rest true at e =
        let named : (p.home ≡ f.origin) × (p.num < f.num) = rw e at h in
        let origin : f.origin ≡ l.home = grind (arith, at) in
        named.0 ∙ origin
    home_at f l p above h rest false at e = rest e

falls_more : (n : ℕ) (S : List Fact) (l p : Id) → p.home ≡ l.home → p.num < l.num → Falls (chain_within n S p) → Falls (l ∷ chain_within n S p)
falls_more zero S l p h lt f = (h, lt, f)
falls_more (suc n) S l p h lt f = (h, lt, f)

falls_rest : (n : ℕ) (S : List Fact) (l : Id) (above : Option Id) → ((p : Id) → above ≡ Some p → (p.home ≡ l.home) × (p.num < l.num) × Falls (chain_within n S p)) → Falls (l ∷ option_map_or (chain_within n S) above [])
falls_rest n S l None h = tt
falls_rest n S l (Some p) h = let at = h p refl in falls_more n S l p at.0 at.1 at.2

falls_within : (S : List Fact) → AllByRecursion NamesEarlier S → (n : ℕ) (l : Id) → Falls (chain_within n S l)
falls_within S h zero l = tt
falls_within S h (suc n) l = falls_rest n S l (parent_of S l) (λ p e. (parent_home S l p h e, parent_lesser S l p h e, falls_within S h n p))

pub chain_falls : (S : List Fact) (l : Id) → AllByRecursion NamesEarlier S → Falls (chain S l)
chain_falls S l h = falls_within S h l.num l
