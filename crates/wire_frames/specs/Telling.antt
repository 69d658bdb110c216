-- What is told of records that have stamps beyond a base, as it is collected from the index of
-- stamps.
use Rattle.std.specs.Prelude.{◌≡◌, ℕ, Bool, Option, Some, None, List, find, if◌then◌else◌, length, map, nat_lt}
use Rattle.std.specs.List.{AllByRecursion, list_any}
use Rattle.state_ids.specs.Ids.{Id, same_id}
use Rattle.state_ids.specs.Fronts.{count}
use Rattle.state_forest.specs.declared.merging.Told.{Told}
use Rattle.state_forest.specs.declared.record.Record.{Record}
use Rattle.state_forest.specs.Forests.{AreOf, HomeRecords, is_of}
use Rattle.state_forest.specs.Records.{nodes_to}
use Rattle.theory_history.specs.Views.{records_at}
use Rattle.state_stamps.specs.declared.stamp_entry.StampEntry.{StampEntry}
use Rattle.state_stamps.specs.Entries.{id_of}
use Rattle.state_stamps.specs.Indexes.{stamp_at}
use Rattle.state_replica.specs.Replicas.{AreHomesFrom}
use Rattle.wire_frames.specs.Order.{lists}

-- one home for each of this many nodes, numbered from 1, each with its records in order
pub record AreHomes (nodes : ℕ) (homes : List HomeRecords) : Type 0 where
  pub count : length homes ≡ nodes
  pub numbered : AreHomesFrom 1 homes
  pub ordered : AllByRecursion (λ (home : HomeRecords). AreOf home.home home.records) homes

-- the record of l, if one of the homes has it
abbrev pub record_in : List HomeRecords → Id → Option Record
record_in homes l = find (is_of l) (records_at (map (λ (home : HomeRecords). home.records) homes) l.home)

-- the records of each home that are told
abbrev pub homes_told : List Told → List HomeRecords
homes_told told = map (λ (t : Told). t.records) told

-- A record that was told stays told. Otherwise the kept record is told, if it is asked for. In this
-- form two steps are one by cases on an option (`asked_twice`)
abbrev pub told_too : (asked : Bool) → (kept told : Option Record) → Option Record
told_too asked kept (Some r) = Some r
told_too asked kept None = if asked then kept else None

-- the homes' records of the LRAs that are asked for are told as well, and no list of numbers
-- changes
pub record AreTold (asked : Id → Bool) (kept : List HomeRecords) (old new : List Told) : Type 0 where
  pub homes : AreHomes (length kept) (homes_told new)
  pub lists : lists new ≡ lists old
  pub found : (l : Id) → record_in (homes_told new) l ≡ told_too (asked l) (record_in kept l) (record_in (homes_told old) l)

-- one of the entries is of this LRA
abbrev pub is_listed : List StampEntry → Id → Bool
is_listed entries l = list_any (λ e. same_id (id_of e) l) entries

-- these stamps are greater than the base's count for a node
abbrev pub is_newer : (base : List ℕ) → Option (List ℕ) → (node : ℕ) → Bool
is_newer base stamps node = nat_lt (count base node) (stamp_at stamps node)

-- so for one of the nodes from 1 to this many
abbrev pub is_newer_to : (nodes : ℕ) → (base : List ℕ) → Option (List ℕ) → Bool
is_newer_to nodes base stamps = list_any (is_newer base stamps) (nodes_to nodes)
