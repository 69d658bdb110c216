-- The rules that the frames of nodes of a lawful history keep. The grammar of their bytes requires
-- no more of a delta than these rules and what its types say: one count a node for 1 to 8 nodes,
-- kept texts of links, numbers of 64 bits.
use Rattle.std.specs.Prelude.{◌≡◌, ◌≤◌, ◌<◌, ◌^◌, ◌==◌, ℕ, true, Option, Some, List, [], ◌∷◌, is_some, length, nat_lt}
use Rattle.std.specs.List.{AllByRecursion, list_any}
use Rattle.state_ids.specs.Fronts.{IsBelow, count}
use Rattle.state_facts.specs.Lists.{In}
use Rattle.state_forest.specs.declared.record.TheConstants.{MAX_MEMBERS}
use Rattle.state_forest.specs.declared.shape.TheConstants.{MAX_HELD}
use Rattle.state_forest.specs.declared.record.Member.{Member}
use Rattle.state_forest.specs.declared.record.Member.TheVariants.{Nested, Participant, Left}
use Rattle.state_forest.specs.declared.record.Place.{Place}
use Rattle.state_forest.specs.declared.record.Record.{Record}
use Rattle.state_forest.specs.Forests.{AreOf}
use Rattle.state_forest.specs.RecordMerges.{home_stamp, linked}
use Rattle.theory_history.specs.Views.{records_at}
use Rattle.wire_frames.specs.Frames.{Frame, IsRising, is_beyond, live_at}

-- Members

-- the numbers of the nested LRAs, in order of the members
abbrev pub nested_numbers : List Member → List ℕ
nested_numbers [] = []
nested_numbers (Nested num ∷ ms) = num ∷ nested_numbers ms
nested_numbers (Participant p ∷ ms) = nested_numbers ms
nested_numbers (Left ∷ ms) = nested_numbers ms

-- a participant has nothing for which it has no link
abbrev pub IsLinked : Member → Type 0
IsLinked (Nested num) = Unit {0}
IsLinked (Participant p) = linked p ≡ p
IsLinked Left = Unit {0}

-- Homes

-- at most 256 numbers, in order, each of a fact that the sender has
pub record AreLive (reach : ℕ) (nums : List ℕ) : Type 0 where
  pub few : length nums ≤ MAX_HELD
  pub rising : IsRising nums
  pub within : AllByRecursion (λ n. (1 ≤ n) × (n ≤ reach)) nums

-- a place in a parent that was begun earlier
pub record IsPlaced (num : ℕ) (place : Place) : Type 0 where
  pub some : 1 ≤ place.number
  pub earlier : place.number < num
  pub low : 1 ≤ place.slot
  pub high : place.slot ≤ MAX_MEMBERS

-- The record keeps the rules of a frame with this base and front, where `live` is what is told of
-- its home. Its number is one that the sender has, and is among the numbers that are told. No stamp
-- is beyond the front, one is beyond the base, and the home's stamp counts the begin. There are at
-- most 32 members. Those that are nested come after the LRA, in order, and the home's stamp counts
-- their begins
pub record KeepsRulesIn (base front : List ℕ) (live : Option (List ℕ)) (r : Record) : Type 0 where
  pub some : 1 ≤ r.num
  pub reach : r.num ≤ count front r.home
  pub told : (nums : List ℕ) → live ≡ Some nums → list_any (λ n. n == r.num) nums ≡ true
  pub placed : (place : Place) → r.parent ≡ Some place → IsPlaced r.num place
  pub nodes : length r.stamps ≡ length front
  pub within : IsBelow r.stamps front
  pub own : r.num ≤ home_stamp r
  pub new : is_beyond base r.stamps ≡ true
  pub few : length r.members ≤ MAX_MEMBERS
  pub rising : IsRising (nested_numbers r.members)
  pub nested : AllByRecursion (λ n. (r.num < n) × (n ≤ home_stamp r)) (nested_numbers r.members)
  pub linked : AllByRecursion IsLinked r.members

-- The frame keeps the rules: its numbers have 48 bits; the base and the purges are below the front;
-- there is a live list exactly for the homes whose last purge is beyond the base; and each home has
-- at most 256 records, in order, each of which keeps the rules
pub record IsOfGrammar (frame : Frame) : Type 0 where
  pub small : (node : ℕ) → count frame.front node < 2 ^ 48
  pub bases : length frame.base ≡ length frame.front
  pub base : IsBelow frame.base frame.front
  pub nodes : length frame.purges ≡ length frame.front
  pub purges : IsBelow frame.purges frame.front
  pub lives : length frame.live ≡ length frame.front
  pub listed : (home : ℕ) → 1 ≤ home → home ≤ length frame.front → is_some (live_at frame.live home) ≡ nat_lt (count frame.base home) (count frame.purges home)
  pub live : (home : ℕ) (nums : List ℕ) → 1 ≤ home → home ≤ length frame.front → live_at frame.live home ≡ Some nums → AreLive (count frame.front home) nums
  pub homes : length frame.records ≡ length frame.front
  pub order : (home : ℕ) → 1 ≤ home → home ≤ length frame.front → AreOf home (records_at frame.records home)
  pub few : (home : ℕ) → 1 ≤ home → home ≤ length frame.front → length (records_at frame.records home) ≤ MAX_HELD
  pub records : (home : ℕ) (r : Record) → 1 ≤ home → home ≤ length frame.front → In r (records_at frame.records home) → KeepsRulesIn frame.base frame.front (live_at frame.live home) r
