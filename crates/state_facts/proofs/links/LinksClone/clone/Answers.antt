use Rattle.std.proofs.Common.{◌≡◌, ℕ, List, Option, Some, None, ap, refl}
use Rattle.state_facts.proofs.links.LinksClone.clone.Goals as goal

-- a link that need not be given, as it is cloned
abbrev IsCloned : Option (List ℕ) → Option (List ℕ) → Type 0
IsCloned None None = Unit {0}
IsCloned None (Some y) = ⊥
IsCloned (Some z) None = ⊥
IsCloned (Some z) (Some y) = y ≡ z

cloned : (a b : Option (List ℕ)) → IsCloned a b → b ≡ a
cloned None None e = refl
cloned None (Some y) e = absurd e
cloned (Some z) None e = absurd e
cloned (Some z) (Some y) e = ap (λ x. Some x) e

pub invariant_of-result : goal.invariant_of-result
invariant_of-result c =
    let inside = c.self.inside in
    let k = cloned inside.complete c.in_ok-clone.field-0 c.in_ok-clone.ensures.cases in
    let p = cloned inside.compensate c.in_ok-clone-2.field-0 c.in_ok-clone-2.ensures.cases in
    let s = cloned inside.status c.in_ok-clone-3.field-0 c.in_ok-clone-3.ensures.cases in
    let f = cloned inside.forget c.in_ok-clone-4.field-0 c.in_ok-clone-4.ensures.cases in
    let a = cloned inside.after c.in_ok-clone-5.field-0 c.in_ok-clone-5.ensures.cases in
    rw (k, p, s, f, a) c.self.invariant

pub returns : goal.returns
returns c =
    let inside = c.self.inside in
    let k = cloned inside.complete c.in_ok-clone.field-0 c.in_ok-clone.ensures.cases in
    let p = cloned inside.compensate c.in_ok-clone-2.field-0 c.in_ok-clone-2.ensures.cases in
    let s = cloned inside.status c.in_ok-clone-3.field-0 c.in_ok-clone-3.ensures.cases in
    let f = cloned inside.forget c.in_ok-clone-4.field-0 c.in_ok-clone-4.ensures.cases in
    let a = cloned inside.after c.in_ok-clone-5.field-0 c.in_ok-clone-5.ensures.cases in
    record { cases = rw (k, p, s, f, a) c.self.view_is }
