-- LRAs that are begun are covered by the front, and what is found of an LRA is of its home
use Rattle.std.proofs.Common.{◌≡◌, ◌≤◌, ◌<◌, ◌-◌, ◌&&◌, ℕ, zero, suc, List, [], ◌∷◌, refl, sym, ap, ◌∙◌, Bool, true, false, cond, arith, Some, length, slice_index, find, nat_le}
use Rattle.std.proofs.lemmas.Bool.Decides.{nat_tests}
use Rattle.state_ids.specs.Ids.{Id, same_id}
use Rattle.state_ids.specs.Fronts.{count}
use Rattle.state_facts.specs.declared.fact.Fact.{Fact}
use Rattle.state_facts.specs.Lists.{In}
use Rattle.state_facts.specs.Sets.{begins, is_begin, is_begun}
use Rattle.state_facts.proofs.Membership.{any_gives}
use Rattle.state_forest.specs.declared.record.Record.{Record}
use Rattle.state_forest.specs.Forests.{is_of}
use Rattle.state_forest.specs.Standing.{IsNested}
use Rattle.theory_history.specs.Growth.{IsSettled}
use Rattle.theory_history.specs.Views.{IsCounted}

pub begun_here : (S : List Fact) (l : Id) → is_begun S l ≡ true → (f : Fact) × In f S × (f.origin ≡ l.home) × (f.num ≡ l.num)
begun_here S l e = let found = any_gives (begins l) S e in (found.0, found.1, home found.0 (is_begin found.0.body) found.2, num found.0 (is_begin found.0.body) found.2)
  where
    home : (f : Fact) (b : Bool) → (b && same_id (record { home = f.origin; num = f.num }) l) ≡ true → f.origin ≡ l.home
    home f true e = grind (arith, nat_tests, e)
    home f false e = absurd cc

    num : (f : Fact) (b : Bool) → (b && same_id (record { home = f.origin; num = f.num }) l) ≡ true → f.num ≡ l.num
    num f true e = grind (arith, nat_tests, e)
    num f false e = absurd cc

-- an LRA that is begun is covered
pub begun_covered : (S : List Fact) (front : List ℕ) (l : Id) → IsCounted S front → is_begun S l ≡ true → (1 ≤ l.num) × (l.num ≤ count front l.home)
begun_covered S front l counted e =
    let found = begun_here S l e in
    let some = (counted.some found.0 found.1).1 in
    let reach = counted.counted found.0 found.1 in
    let there : count front found.0.origin ≡ count front l.home = ap (count front) found.2 in
    (omega (arith, some, found.3), omega (arith, reach, there, found.3))

pub beyond_front : (front : List ℕ) (place : ℕ) → length front ≤ place → slice_index front place ≡ 0
beyond_front [] place e = refl
beyond_front (n ∷ front) zero e = absurd (omega (arith, e))
beyond_front (n ∷ front) (suc place) e = beyond_front front place (omega (arith, e))

-- a settled set is nested
pub nested_settled : (S : List Fact) → IsSettled S → IsNested S
nested_settled S settled = record { once = settled.seated.once; shallow = settled.shallow }

of_is : (l : Id) (q : Record) → is_of l q ≡ true → q.home ≡ l.home
of_is l q e = grind (arith, nat_tests, e)

pub found_of : (l : Id) (rs : List Record) (r : Record) → find (is_of l) rs ≡ Some r → r.home ≡ l.home
found_of l [] r e = absurd cc
found_of l (q ∷ rs) r e = by (found_of l rs r) (is_of l q) refl e
  where
    by : (find (is_of l) rs ≡ Some r → r.home ≡ l.home) → (b : Bool) → is_of l q ≡ b → cond b (Some q) (find (is_of l) rs) ≡ Some r → r.home ≡ l.home
    by rest true t e = let same : q ≡ r = cc in ap (λ (x : Record). x.home) (sym same) ∙ of_is l q t
    by rest false t e = rest e

-- the home of a begun LRA is one of the nodes
pub begun_within : (S : List Fact) (front : List ℕ) (l : Id) → IsCounted S front → is_begun S l ≡ true → l.home ≤ length front
begun_within S front l counted e = by (nat_le l.home (length front)) refl
  where
    by : (b : Bool) → nat_le l.home (length front) ≡ b → l.home ≤ length front
    by true t = grind (arith, nat_tests, t)
    by false t =
        let past : length front < l.home = grind (arith, nat_tests, t) in
        let covered = begun_covered S front l counted e in
        absurd (omega (arith, covered.0, covered.1, beyond_front front (l.home - 1) (omega (arith, past))))
