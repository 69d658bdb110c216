-- begins, and the parents that they name
use Rattle.std.proofs.Common.{◌≡◌, inl, inr, List, [], ◌∷◌, refl, sym, ap, ◌∙◌, Bool, true, false, cond, Some, None}
use Rattle.state_ids.specs.Ids.{Id, same_id}
use Rattle.state_facts.specs.declared.fact.Body.{Body}
use Rattle.state_facts.specs.declared.fact.Body.TheVariants.{Begin, Join, Leave, Decide, Report, Forgot, Told, Purge}
use Rattle.state_facts.specs.declared.fact.Fact.{Fact}
use Rattle.state_facts.specs.Sets.{begins, is_begin, begun_by, is_begun, gives_number, parent_named, parent_of}
use Rattle.state_facts.specs.Lists.{In}
use Rattle.state_forest.specs.Standing.{AreOnce}
use Rattle.state_facts.proofs.Membership.{any_from}
use Rattle.state_forest.proofs.Bools.{all_in}
use Rattle.state_forest.proofs.ParentsAndChains.{begins_at}
use Rattle.state_forest.proofs.NumberedMembers.{same_self}

-- facts with one origin and one number are one fact
pub once_in : (S : List Fact) → AreOnce S → (f g : Fact) → In f S → In g S → f.origin ≡ g.origin → f.num ≡ g.num → f ≡ g
once_in [] h f g i j o n = absurd i
once_in (x ∷ S) h f g (inl s) (inl t) o n = s ∙ sym t
once_in (x ∷ S) h f g (inl s) (inr j) o n = absurd (all_in _ S h.0 g j (ap (λ (y : Fact). y.origin) (sym s) ∙ o) (ap (λ (y : Fact). y.num) (sym s) ∙ n))
once_in (x ∷ S) h f g (inr i) (inl t) o n = absurd (all_in _ S h.0 f i (ap (λ (y : Fact). y.origin) (sym t) ∙ sym o) (ap (λ (y : Fact). y.num) (sym t) ∙ sym n))
once_in (x ∷ S) h f g (inr i) (inr j) o n = once_in S h.1 f g i j o n

-- the parent is the one that the begin names
pub parent_found : (S : List Fact) (l : Id) (f : Fact) → AreOnce S → In f S → begins l f ≡ true → parent_of S l ≡ parent_named f.body
parent_found [] l f once m e = absurd m
parent_found (g ∷ S) l f once m e = by (λ n. parent_found S l f once.1 n e) (begins l g) refl m
  where
    by : (In f S → parent_of S l ≡ parent_named f.body) → (b : Bool) → begins l g ≡ b → In f (g ∷ S) → cond b (parent_named g.body) (parent_of S l) ≡ parent_named f.body
    by rest true at m =
        let one = begins_at l f e in
        let other = begins_at l g at in
        ap (λ (x : Fact). parent_named x.body) (once_in (g ∷ S) once g f (inl refl) m (other.0 ∙ sym one.0) (other.1 ∙ sym one.1))
    by rest false at (inl s) = absurd (let wrong : begins l g ≡ true = rw s at e in cc)
    by rest false at (inr n) = rest n

-- a parent is named by a begin
pub parent_begin : (S : List Fact) (l p : Id) → parent_of S l ≡ Some p → (f : Fact) × In f S × (begins l f ≡ true) × (parent_named f.body ≡ Some p)
parent_begin [] l p e = absurd cc
parent_begin (g ∷ S) l p e = by (parent_begin S l p) (begins l g) refl e
  where
    by : (parent_of S l ≡ Some p → (f : Fact) × In f S × (begins l f ≡ true) × (parent_named f.body ≡ Some p)) → (b : Bool) → begins l g ≡ b → cond b (parent_named g.body) (parent_of S l) ≡ Some p → (f : Fact) × In f (g ∷ S) × (begins l f ≡ true) × (parent_named f.body ≡ Some p)
    by rest true at e = (g, inl refl, at, e)
    by rest false at e = let found = rest e in (found.0, inr found.1, found.2, found.3)

-- an LRA that has a parent was begun
pub parent_begun : (S : List Fact) (l p : Id) → parent_of S l ≡ Some p → is_begun S l ≡ true
parent_begun S l p e = let found = parent_begin S l p e in any_from (begins l) S found.0 found.1 found.2

-- a begin gives a number of the parent that it names
pub begin_gives : (l : Id) (body : Body) → parent_named body ≡ Some l → gives_number l body ≡ true
begin_gives l (Begin None deadline) e = absurd cc
begin_gives l (Begin (Some p) deadline) e = let same : p ≡ l = cc in ap (λ x. same_id x l) same ∙ same_self l
begin_gives l (Join id m links) e = absurd cc
begin_gives l (Leave id m) e = absurd cc
begin_gives l (Decide id verdict) e = absurd cc
begin_gives l (Report id m act outcome) e = absurd cc
begin_gives l (Forgot id m) e = absurd cc
begin_gives l (Told id m) e = absurd cc
begin_gives l (Purge root) e = absurd cc

-- a fact begins the LRA of its origin and number, if it is a begin
pub begins_own : (f : Fact) → is_begin f.body ≡ true → begins (begun_by f) f ≡ true
begins_own f e = rw e (same_self (begun_by f))
