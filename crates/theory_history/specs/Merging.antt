-- The merge of two views, and the view that results when what another node tells is taken.
use Rattle.std.specs.Prelude.{◌≡◌, ◌≤◌, ◌+◌, ◌-◌, ◌&&◌, ℕ, Option, Some, None, List, [], ◌∷◌, ◌++◌, find, length, map, slice_get}
use Rattle.std.specs.Option.{option_map_or}
use Rattle.state_ids.specs.Ids.{Id, is_fact_number}
use Rattle.state_ids.specs.Fronts.{IsBelow, count, is_covered, join_fronts}
use Rattle.state_forest.specs.declared.merging.Told.{Told}
use Rattle.state_forest.specs.declared.record.Record.{Record}
use Rattle.state_forest.specs.Forests.{AreOf, id_of, is_of}
use Rattle.state_forest.specs.RecordMerges.{held_numbers, is_gone, absorbed}
use Rattle.state_forest.specs.OnlyChanges.{IsTold}
use Rattle.state_forest.specs.Places.{put_record}
use Rattle.state_forest.specs.Records.{nodes_to}
use Rattle.theory_history.specs.Histories.{History, IsClosed, facts}
use Rattle.theory_history.specs.Views.{StandsFor, View, record_at, records_at}

-- Two views

-- what the receiver keeps of an LRA when it merges the other view
abbrev pub merged_of : View → View → Id → Option Record
merged_of a b l = absorbed (is_covered a.front l) (is_fact_number l.num && is_covered b.front l) (record_at a l) (record_at b l)

-- c is the merge of a and b, which count the same nodes: it has the greater counts and purges, and
-- of each LRA what is absorbed
pub record IsMerged (a b c : View) : Type 0 where
  pub nodes : length a.front ≡ length b.front
  pub front : c.front ≡ join_fronts a.front b.front
  pub purges : c.purges ≡ join_fronts a.purges b.purges
  pub homes : length c.records ≡ length c.front
  pub order : (home : ℕ) → 1 ≤ home → home ≤ length c.front → AreOf home (records_at c.records home)
  pub records : (l : Id) → 1 ≤ l.home → l.home ≤ length c.front → record_at c l ≡ merged_of a b l

-- the records with this one, if there is one, in its place
abbrev pub put_some : Option Record → List Record → List Record
put_some None rs = rs
put_some (Some r) rs = put_record r rs

-- what is absorbed of the LRAs in a list of records, in order
abbrev pub all_merged : View → View → List Record → List Record
all_merged a b [] = []
all_merged a b (r ∷ rs) = put_some (merged_of a b (id_of r)) (all_merged a b rs)

-- the merge of two views that count the same nodes
abbrev pub merged : View → View → View
merged a b =
    record {
      front = join_fronts a.front b.front;
      purges = join_fronts a.purges b.purges;
      records = map (λ home. all_merged a b (records_at a.records home ++ records_at b.records home)) (nodes_to (length a.front));
    }

-- What another node tells

-- the homes are numbered from k
abbrev pub AreToldFrom : ℕ → List Told → Type 0
AreToldFrom k [] = Unit {0}
AreToldFrom k (told ∷ homes) = (told.records.home ≡ k) × AreToldFrom (k + 1) homes

-- a node's front, its last purges, and what it tells of each home
pub record Telling : Type 0 where
  pub front : List ℕ
  pub purges : List ℕ
  pub homes : List Told

-- it tells of one home for each node that its front counts
pub record IsTelling (telling : Telling) : Type 0 where
  pub purges : length telling.purges ≡ length telling.front
  pub homes : length telling.homes ≡ length telling.front
  pub numbered : AreToldFrom 1 telling.homes

-- the records that it tells of a home
abbrev pub told_records : Telling → ℕ → List Record
told_records telling home = option_map_or (λ (told : Told). told.records.records) (slice_get telling.homes (home - 1)) []

-- the numbers of all LRAs of a home that the other node holds, if it tells them
abbrev pub told_held : Telling → ℕ → Option (List ℕ)
told_held telling home = option_map_or (λ (told : Told). held_numbers told.held) (slice_get telling.homes (home - 1)) None

-- what is absorbed of an LRA, for a view and what another node tells
abbrev pub absorbed_of : View → Telling → Id → Option Record
absorbed_of a telling l =
    absorbed (is_covered a.front l) (is_gone (count telling.front l.home) (told_held telling l.home) l.num)
    (record_at a l) (find (is_of l) (told_records telling l.home))

-- c is the view a once what is told is taken, from a node that counts the same nodes: it has the
-- greater counts and purges, and of each LRA what is absorbed
pub record IsAbsorbed (a : View) (telling : Telling) (c : View) : Type 0 where
  pub nodes : length a.front ≡ length telling.front
  pub front : c.front ≡ join_fronts a.front telling.front
  pub purges : c.purges ≡ join_fronts a.purges telling.purges
  pub homes : length c.records ≡ length c.front
  pub order : (home : ℕ) → 1 ≤ home → home ≤ length c.front → AreOf home (records_at c.records home)
  pub records : (l : Id) → 1 ≤ l.home → l.home ≤ length c.front → record_at c l ≡ absorbed_of a telling l

-- It tells what b has that is news to a: b's front and purges, which LRAs b holds, and of each LRA
-- what b has, unless that changes nothing in a. Its homes' records are in order
pub record TellsNews (a : View) (telling : Telling) (b : View) : Type 0 where
  pub front : telling.front ≡ b.front
  pub purges : telling.purges ≡ b.purges
  pub records : (l : Id) → 1 ≤ l.home → l.home ≤ length b.front → IsTold (record_at a l) (record_at b l) (find (is_of l) (told_records telling l.home))
  pub order : (home : ℕ) → 1 ≤ home → home ≤ length b.front → AreOf home (records_at b.records home)
  pub held : (home : ℕ) → 1 ≤ home → home ≤ length b.front → told_held telling home ≡ Some (map (λ (r : Record). r.num) (records_at b.records home))

-- Views in a history

-- the view stands for what a closed front counts, and has a count for each node
pub record IsClosedView (h : History) (v : List ℕ) (a : View) : Type 0 where
  pub closed : IsClosed h v
  pub nodes : length a.front ≡ length h
  pub stands : StandsFor (facts h v) a

-- the views stand for two closed sets of the history, the first inside the second
pub record IsPartOf (h : History) (a b : View) : Type 0 where
  pub lesser : List ℕ
  pub greater : List ℕ
  pub first : IsClosedView h lesser a
  pub second : IsClosedView h greater b
  pub below : IsBelow lesser greater
