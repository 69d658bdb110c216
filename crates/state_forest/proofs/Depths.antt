-- how deep an LRA is nested, and how many member numbers it gave
use Rattle.std.proofs.Common.{◌≡◌, ℕ, suc, List, [], ◌∷◌, refl, ap, ◌∙◌, Bool, true, false, cond, Some, None, find, length, filter, nat_le}
use Rattle.std.proofs.lemmas.List.{length-map}
use Rattle.state_ids.specs.Ids.{Id}
use Rattle.state_facts.specs.declared.fact.Fact.{Fact}
use Rattle.state_facts.specs.Sets.{depth, gives_number, is_held, numbers_given}
use Rattle.state_forest.specs.declared.record.Place.{Place}
use Rattle.state_forest.specs.declared.record.Record.{Record}
use Rattle.state_forest.specs.Forests.{is_of}
use Rattle.state_forest.specs.Records.{by_number, givers, member_by, members_of, put_by_number}
use Rattle.state_forest.specs.Standing.{IsWhole, Stands}
use Rattle.state_forest.proofs.ParentsAndChains.{chain_root}
use Rattle.state_forest.proofs.ShownByMembers.{depth_up}
use Rattle.state_forest.proofs.RecordsOfASet.{found_parent, found_root}

-- an LRA is one level deeper than the parent that its record names
pub depth_above : (nodes : ℕ) (S : List Fact) (records : List Record) (x : Id) (r : Record) (p : Place) → IsWhole S → Stands nodes x.home S records → is_held S x ≡ true → find (is_of x) records ≡ Some r → r.parent ≡ Some p → depth S x ≡ suc (depth S (record { home = x.home; num = p.number }))
depth_above nodes S records x r p whole stands held found e =
    depth_up S (record { home = x.home; num = p.number }) x whole (found_parent nodes S records x r p whole stands held found e)

-- an LRA whose record names no parent is a root
pub depth_alone : (nodes : ℕ) (S : List Fact) (records : List Record) (x : Id) (r : Record) → IsWhole S → Stands nodes x.home S records → is_held S x ≡ true → find (is_of x) records ≡ Some r → r.parent ≡ None → depth S x ≡ 1
depth_alone nodes S records x r whole stands held found e =
    ap (λ (ids : List Id). length ids) (chain_root S whole.nested x (found_root nodes S records x r stands held found e))

length_put : (f : Fact) (fs : List Fact) → length (put_by_number f fs) ≡ suc (length fs)
length_put f [] = refl
length_put f (g ∷ fs) = by (nat_le f.num g.num) (length_put f fs)
  where
    by : (b : Bool) → length (put_by_number f fs) ≡ suc (length fs) → length (cond b (f ∷ g ∷ fs) (g ∷ put_by_number f fs)) ≡ suc (suc (length fs))
    by true rest = refl
    by false rest = ap (λ n. suc n) rest

length_ordered : (fs : List Fact) → length (by_number fs) ≡ length fs
length_ordered [] = refl
length_ordered (f ∷ fs) = length_put f (by_number fs) ∙ ap (λ n. suc n) (length_ordered fs)

-- an LRA has as many members as it gave member numbers
pub members_given : (S : List Fact) (l : Id) → length (members_of S l) ≡ numbers_given S l
members_given S l =
    length-map (givers S l) (λ (f : Fact). member_by S l f.num f.body) ∙ length_ordered (filter (λ f. gives_number l f.body) S)
