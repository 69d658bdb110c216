-- records that stand for a set
use Rattle.std.proofs.Common.{◌≡◌, ◌||◌, ℕ, List, refl, sym, ap, ◌∙◌, Bool, true, false, Option, Some, None, find}
use Rattle.std.specs.List.{list_any}
use Rattle.state_ids.specs.Ids.{Id}
use Rattle.state_facts.specs.declared.fact.Fact.{Fact}
use Rattle.state_facts.specs.Sets.{is_held, is_begun, parent_of, chain, is_purged_root}
use Rattle.state_forest.specs.declared.record.Place.{Place}
use Rattle.state_forest.specs.declared.record.Record.{Record}
use Rattle.state_forest.specs.Records.{record_of, place_in}
use Rattle.state_forest.specs.Children.{child_of, if_child}
use Rattle.state_forest.specs.Forests.{is_of}
use Rattle.state_forest.specs.Shape.{found_at}
use Rattle.state_forest.specs.Standing.{IsWhole, Stands}
use Rattle.state_forest.proofs.Bools.{and_left, and_right, not_false, or_false}
use Rattle.state_forest.proofs.EqualRecords.{number_own}
use Rattle.state_forest.proofs.ParentsAndChains.{parent_home, chain_up}

pub stands_at : (nodes home : ℕ) (S : List Fact) (records : List Record) (l : Id) → Stands nodes home S records → l.home ≡ home → is_held S l ≡ true → find (is_of l) records ≡ Some (record_of nodes S l)
stands_at nodes home S records l stands at held = stands l at ∙ rw held refl

pub nothing_at : (nodes home : ℕ) (S : List Fact) (records : List Record) (l : Id) → Stands nodes home S records → l.home ≡ home → is_held S l ≡ false → find (is_of l) records ≡ None
nothing_at nodes home S records l stands at held = stands l at ∙ rw held refl

-- the parent of a held LRA is held
pub held_parent : (S : List Fact) (l p : Id) → IsWhole S → is_held S l ≡ true → parent_of S l ≡ Some p → is_held S p ≡ true
held_parent S l p whole held e =
    let begun = whole.parents l p (and_left (is_begun S l) _ held) e in
    let kept = not_false _ (and_right (is_begun S l) _ held) in
    let chained = chain_up S whole.nested l p e in
    let split : (is_purged_root S l || list_any (is_purged_root S) (chain S p)) ≡ false = sym (ap (list_any (is_purged_root S)) chained) ∙ kept in
    let gone = or_false (is_purged_root S l) (list_any (is_purged_root S) (chain S p)) split in
    rw (begun, gone) refl

-- the record of a nested LRA names its parent
pub child_at : (nodes home : ℕ) (S : List Fact) (records : List Record) (l c : Id) → Stands nodes home S records → c.home ≡ home → parent_of S c ≡ Some l → is_held S c ≡ true → child_of (found_at home records) l.num c.num ≡ Some (record_of nodes S c)
child_at nodes home S records l c stands at up held =
    let here : ◌≡◌ {A = Id} (record { home = home; num = c.num }) c = ap (λ (x : ℕ). record { home = x; num = c.num }) (sym at) in
    let found : find (is_of (record { home = home; num = c.num })) records ≡ Some (record_of nodes S c) = ap (λ (x : Id). find (is_of x) records) here ∙ stands_at nodes home S records c stands at held in
    ap (if_child l.num) found ∙ rw up (rw (number_own l.num) refl)

-- what was found of a held LRA is its record
pub found_is : (nodes : ℕ) (S : List Fact) (records : List Record) (x : Id) (r : Record) → Stands nodes x.home S records → is_held S x ≡ true → find (is_of x) records ≡ Some r → r ≡ record_of nodes S x
found_is nodes S records x r stands held found = let at = stands_at nodes x.home S records x stands refl held in cc

pub nothing_found : (nodes : ℕ) (S : List Fact) (records : List Record) (x : Id) → Stands nodes x.home S records → is_held S x ≡ true → find (is_of x) records ≡ None → ⊥
nothing_found nodes S records x stands held none = let at = stands_at nodes x.home S records x stands refl held in cc

-- an LRA is held exactly if a record is found
pub held_if_found : (nodes : ℕ) (S : List Fact) (records : List Record) (x : Id) (r : Record) → Stands nodes x.home S records → find (is_of x) records ≡ Some r → is_held S x ≡ true
held_if_found nodes S records x r stands found = by (is_held S x) refl
  where
    by : (b : Bool) → is_held S x ≡ b → b ≡ true
    by true e = refl
    by false e = absurd (let at = nothing_at nodes x.home S records x stands refl e in cc)

place_names : (S : List Fact) (num home : ℕ) (above : Option Id) (p : Place) → ((q : Id) → above ≡ Some q → q.home ≡ home) → place_in S num above ≡ Some p → above ≡ Some (record { home = home; num = p.number })
place_names S num home None p h e = absurd cc
place_names S num home (Some q) p h e =
    let number : q.num ≡ p.number = ap (option_number q.num) e in
    ap (λ (n : ℕ). Some (record { home = q.home; num = n })) number ∙ ap (λ (n : ℕ). Some (record { home = n; num = p.number })) (h q refl)
  where
    option_number : ℕ → Option Place → ℕ
    option_number d None = d
    option_number d (Some q) = q.number

place_none : (S : List Fact) (num : ℕ) (above : Option Id) → place_in S num above ≡ None → above ≡ None
place_none S num None e = refl
place_none S num (Some q) e = absurd cc

-- the parent that the place in the record names is the parent of the LRA
pub place_parent : (S : List Fact) (x : Id) (p : Place) → IsWhole S → place_in S x.num (parent_of S x) ≡ Some p → parent_of S x ≡ Some (record { home = x.home; num = p.number })
place_parent S x p whole e = place_names S x.num x.home (parent_of S x) p (λ q n. parent_home S x q whole.nested n) e

pub found_parent : (nodes : ℕ) (S : List Fact) (records : List Record) (x : Id) (r : Record) (p : Place) → IsWhole S → Stands nodes x.home S records → is_held S x ≡ true → find (is_of x) records ≡ Some r → r.parent ≡ Some p → parent_of S x ≡ Some (record { home = x.home; num = p.number })
found_parent nodes S records x r p whole stands held found e =
    place_parent S x p whole (sym (ap (λ (y : Record). y.parent) (found_is nodes S records x r stands held found)) ∙ e)

pub found_root : (nodes : ℕ) (S : List Fact) (records : List Record) (x : Id) (r : Record) → Stands nodes x.home S records → is_held S x ≡ true → find (is_of x) records ≡ Some r → r.parent ≡ None → parent_of S x ≡ None
found_root nodes S records x r stands held found e =
    place_none S x.num (parent_of S x) (sym (ap (λ (y : Record). y.parent) (found_is nodes S records x r stands held found)) ∙ e)

pub not_held : (nodes : ℕ) (S : List Fact) (records : List Record) (x : Id) → Stands nodes x.home S records → find (is_of x) records ≡ None → is_held S x ≡ false
not_held nodes S records x stands none = by (is_held S x) refl
  where
    by : (b : Bool) → is_held S x ≡ b → b ≡ false
    by true e = absurd (nothing_found nodes S records x stands e none)
    by false e = refl
