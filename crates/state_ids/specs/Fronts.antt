-- Fronts: how many facts of each node are counted.
use Rattle.std.specs.Prelude.{ℕ, ◌-◌, ◌≤◌, Bool, List, [], ◌∷◌, ◌++◌, slice_index, codes, max, min, nat_le}
use Rattle.std.specs.List.{flat_map}
use Rattle.std.specs.Fmt.{decimal}
use Rattle.state_ids.specs.Ids.{Id}

-- how many facts of a node the front counts, 0 if there is no such node (for node 0, which no id
-- has, it is node 1's count: a case for 0 would come up in about 80 proofs)
abbrev pub count : List ℕ → ℕ → ℕ
count v node = slice_index v (node - 1)

-- the front's count of the id's home is at least the id's number
abbrev pub is_covered : List ℕ → Id → Bool
is_covered v l = nat_le l.num (count v l.home)

-- each count is at most the other front's count of the same node
abbrev pub IsBelow : List ℕ → List ℕ → Type 0
IsBelow v w = (node : ℕ) → count v node ≤ count w node

-- f applied to the two counts of each node
abbrev pub pairwise : (ℕ → ℕ → ℕ) → List ℕ → List ℕ → List ℕ
pairwise f [] w = w
pairwise f (a ∷ v) [] = a ∷ v
pairwise f (a ∷ v) (b ∷ w) = f a b ∷ pairwise f v w

-- the greater count of each node
abbrev pub join_fronts : List ℕ → List ℕ → List ℕ
join_fronts = pairwise max

-- the lesser count of each node
abbrev pub meet_fronts : List ℕ → List ℕ → List ℕ
meet_fronts = pairwise min

-- a space and one more count, as text
abbrev pub one_more_count : ℕ → List ℕ
one_more_count n = codes " " ++ decimal n

-- the counts as text, separated by spaces
abbrev pub front_text : List ℕ → List ℕ
front_text [] = []
front_text (n ∷ v) = decimal n ++ flat_map one_more_count v
