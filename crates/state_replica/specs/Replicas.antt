-- A replica as contracts see it: its state, the view that this state represents, and the room for a
-- patch.
use Rattle.std.specs.Prelude.{◌≡◌, ◌≤◌, ◌+◌, ◌-◌, ◌==◌, ℕ, Option, List, [], ◌∷◌, length, map, filter, find, replicate, slice_get}
use Rattle.std.specs.List.{AllByRecursion}
use Rattle.std.specs.Option.{option_map, option_map_or}
use Rattle.state_ids.specs.declared.TheConstants.{MAX_NODES}
use Rattle.state_ids.specs.Ids.{Id}
use Rattle.state_forest.specs.declared.record.Record.{Record}
use Rattle.state_forest.specs.Forests.{AreOf, HomeRecords, is_of}
use Rattle.state_stamps.specs.Indexes.{AreIndexesOf, HeldIndex}
use Rattle.theory_history.specs.Views.{View, records_at}
use Rattle.theory_history.specs.Changes.{Change}

-- a front, the last purge of each home, each home's records, and the index of their stamps, with
-- the room that was made for more
pub record ReplicaState : Type 0 where
  pub front : List ℕ
  pub purges : List ℕ
  pub homes : List HomeRecords
  pub index : HeldIndex

-- the records of each home
abbrev pub records_in : List HomeRecords → List (List Record)
records_in homes = map (λ (home : HomeRecords). home.records) homes

-- the view of a replica, which doesn't include the room and the index
abbrev pub view_of : ReplicaState → View
view_of kept = record { front = kept.front; purges = kept.purges; records = records_in kept.homes }

-- the homes are numbered from k
abbrev pub AreHomesFrom : ℕ → List HomeRecords → Type 0
AreHomesFrom k [] = Unit {0}
AreHomesFrom k (home ∷ homes) = (home.home ≡ k) × AreHomesFrom (k + 1) homes

-- homes numbered from 1, without records
pub record AreEmptyHomes (nodes : ℕ) (homes : List HomeRecords) : Type 0 where
  pub count : length homes ≡ nodes
  pub numbered : AreHomesFrom 1 homes
  pub empty : map (λ home. home.records) homes ≡ replicate nodes []

-- the stamps that the homes' records have of l; there are none if l has no record
abbrev pub stamps_in : List (List Record) → Id → Option (List ℕ)
stamps_in records l = option_map (λ (r : Record). r.stamps) (find (is_of l) (records_at records l.home))

-- the stamps of the record of l, if it is held
abbrev pub stamps_of : View → Id → Option (List ℕ)
stamps_of view l = stamps_in view.records l

-- one home for each node that the front counts, each home's records in order, and in the index the
-- stamps of all records for each of eight nodes
pub record IsReplicaState (kept : ReplicaState) : Type 0 where
  pub purges : length kept.purges ≡ length kept.front
  pub homes : length kept.homes ≡ length kept.front
  pub numbered : AreHomesFrom 1 kept.homes
  pub ordered : AllByRecursion (λ (home : HomeRecords). AreOf home.home home.records) kept.homes
  pub origins : length kept.index.origins ≡ MAX_NODES
  pub indexed : AreIndexesOf kept.index.origins (stamps_of (view_of kept))

-- how many more records there is room for at a home
abbrev pub spare_at : List HomeRecords → ℕ → ℕ
spare_at homes home = option_map_or (λ (h : HomeRecords). h.spare) (slice_get homes (home - 1)) 0

-- at each home there is room for at most 16 more records
abbrev pub HasLittleRoom : ReplicaState → Type 0
HasLittleRoom kept = (home : ℕ) → 1 ≤ home → spare_at kept.homes home ≤ 16

-- at each home and in the index there is as much room as before, or more, so a patch that fitted
-- still fits
pub record KeepsRoom (before after : ReplicaState) : Type 0 where
  pub homes : (home : ℕ) → 1 ≤ home → spare_at before.homes home ≤ spare_at after.homes home
  pub index : before.index.spare ≤ after.index.spare

abbrev pub count_of_home : ℕ → List Record → ℕ
count_of_home home records = length (filter (λ r. r.home == home) records)

-- the change counts the same nodes, and there is room for its records
pub record Fits (change : Change) (kept : ReplicaState) : Type 0 where
  pub front : length change.front ≡ length kept.front
  pub purges : length change.purges ≡ length kept.front
  pub homes : AllByRecursion (λ r. r.home ≤ length kept.front) change.records
  pub room : (home : ℕ) → 1 ≤ home → count_of_home home change.records ≤ spare_at kept.homes home
  pub entries : length change.records ≤ kept.index.spare
