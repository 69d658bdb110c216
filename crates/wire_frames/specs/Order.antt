-- records in the order of a frame
use Rattle.std.specs.Prelude.{◌≡◌, ◌+◌, ℕ, [], true, List, OnOk, Option, Result, map, slice_index}
use Rattle.state_forest.specs.declared.record.Record.{Record}
use Rattle.state_forest.specs.declared.merging.Told.{Told}
use Rattle.state_forest.specs.RecordMerges.{held_numbers}
use Rattle.theory_history.specs.Merging.{AreToldFrom}
use Rattle.wire_frames.specs.declared.order.Last.{Last}
use Rattle.wire_frames.specs.declared.input.Stop.{Stop}
use Rattle.wire_frames.specs.FrameFields.{Along, Rest, Read}
use Rattle.wire_frames.specs.Rules.{after, by_home, is_home, is_next}
use Rattle.wire_frames.specs.Reading.{read_live_at}
use Rattle.wire_frames.specs.Seen.{Reads, Seen}

abbrev pub Follows : ℕ → Last → Record → Type 0
Follows nodes last r = (is_home nodes last.home r.home ≡ true) × (is_next last r.home r.num ≡ true)

abbrev pub AreInOrder : ℕ → Last → List Record → Type 0
AreInOrder nodes last rs = Along (Follows nodes) after last rs

-- what is told of each home

abbrev pub lists : List Told → List (Option (List ℕ))
lists homes = map (λ (told : Told). held_numbers told.held) homes

abbrev pub records_told : List Told → List (List Record)
records_told homes = map (λ (told : Told). told.records.records) homes

-- the home at a place, counted from 0
abbrev pub live_of_place : (base purges front : List ℕ) → ℕ → Rest → Read (Option (List ℕ))
live_of_place base purges front place = read_live_at (slice_index base place) (slice_index purges place) (slice_index front place)

abbrev pub next_place : ℕ → Option (List ℕ) → ℕ
next_place place live = place + 1

-- for each home from 1 to this many no record
pub record AreEmpty (nodes : ℕ) (homes : List Told) : Type 0 where
  pub numbered : AreToldFrom 1 homes
  pub none : records_told homes ≡ by_home nodes []

-- these records were put in their order, each at its home, and the live lists are as they were
pub record ArePut (nodes : ℕ) (old new : List Told) (rs : List Record) : Type 0 where
  pub told : AreToldFrom 1 new
  pub held : lists new ≡ lists old
  pub records : records_told new ≡ by_home nodes rs

-- what was read are records, and they were put
abbrev pub ArePutAs : (nodes : ℕ) (before after : Seen) (old new : List Told) (result : Result (Unit {0}) Stop) → (Rest → Read (List Record)) → Type 0
ArePutAs nodes before after old new result scan =
    (rs : List Record)
    × Reads before after (λ (u : Unit {0}). rs) result scan
    × OnOk result (ArePut nodes old new rs)
