-- The frame since a base: what a node tells another that has the facts counted by the base.
use Rattle.std.specs.Prelude.{◌≡◌, ◌≤◌, ◌-◌, ◌&&◌, ◌==◌, ◌<◌, ℕ, Bool, true, false, Option, Some, None, List, [], ◌∷◌, filter, find, get_or, if◌then◌else◌, length, map, nat_lt}
use mathlib.Core.Bool.{not}
use Rattle.std.specs.List.{AllByRecursion, list_any}
use Rattle.state_ids.specs.Ids.{Id}
use Rattle.state_ids.specs.Fronts.{count}
use Rattle.state_facts.specs.declared.fact.Fact.{Fact}
use Rattle.state_facts.specs.Sets.{is_held}
use Rattle.state_forest.specs.declared.record.Record.{Record}
use Rattle.state_forest.specs.Forests.{AreOf, is_of}
use Rattle.state_forest.specs.Records.{is_about, nodes_to, record_of}
use Rattle.theory_history.specs.Histories.{is_counted}
use Rattle.theory_history.specs.Views.{IsCounted, View, purge_number, records_at}

-- The base, the sender's front and last purges, and for each home the numbers of all LRAs that the
-- sender holds there, if they are told, and some records, in order
pub record Frame : Type 0 where
  pub base : List ℕ
  pub front : List ℕ
  pub purges : List ℕ
  pub live : List (Option (List ℕ))
  pub records : List (List Record)

-- the live list of a home, where homes are numbered from 1
abbrev pub live_at : List (Option (List ℕ)) → ℕ → Option (List ℕ)
live_at live home = get_or live (home - 1) None

-- Of a view

-- the counts are greater than the base's for some node
abbrev pub is_beyond : (base counts : List ℕ) → Bool
is_beyond base counts = list_any (λ node. nat_lt (count base node) (count counts node)) (nodes_to (length counts))

-- the numbers of the home's LRAs that are held, if it purged after the base
abbrev pub live_since : View → (base : List ℕ) → (home : ℕ) → Option (List ℕ)
live_since view base home =
    if nat_lt (count base home) (count view.purges home) then Some (map (λ (r : Record). r.num) (records_at view.records home)) else None

-- the home's records that have a stamp beyond the base
abbrev pub records_since : View → (base : List ℕ) → (home : ℕ) → List Record
records_since view base home = filter (λ r. is_beyond base r.stamps) (records_at view.records home)

abbrev pub frame_of : View → (base : List ℕ) → Frame
frame_of view base =
    record {
      base = base;
      front = view.front;
      purges = view.purges;
      live = map (live_since view base) (nodes_to (length view.front));
      records = map (records_since view base) (nodes_to (length view.front));
    }

-- Of a set

-- the set has a fact about l that the base doesn't count
abbrev pub has_news : List Fact → (base : List ℕ) → Id → Bool
has_news S base l = list_any (λ f. is_about l f && not (is_counted base f)) S

abbrev pub IsRising : List ℕ → Type 0
IsRising [] = Unit {0}
IsRising (n ∷ ns) = AllByRecursion (λ k. n < k) ns × IsRising ns

-- the numbers are those of the home's LRAs that the set holds, in order
pub record AreHeld (S : List Fact) (home : ℕ) (nums : List ℕ) : Type 0 where
  pub rising : IsRising nums
  pub held : (num : ℕ) → list_any (λ n. n == num) nums ≡ is_held S (record { home = home; num = num })

-- The frame of the set since the base. It has the front and last purges of the set. It has a live
-- list exactly for the homes whose last purge the base doesn't count, with all LRAs that are held
-- there. Of the LRAs that are held it has the records of those about which the set has a fact that
-- the base doesn't count
pub record IsFrame (S : List Fact) (base : List ℕ) (frame : Frame) : Type 0 where
  pub base_is : frame.base ≡ base
  pub front : IsCounted S frame.front
  pub purges : frame.purges ≡ map (purge_number S) (nodes_to (length frame.front))
  pub lives : length frame.live ≡ length frame.front
  pub listed : (home : ℕ) → 1 ≤ home → home ≤ length frame.front → nat_lt (count base home) (purge_number S home) ≡ true →
      (nums : List ℕ) × (live_at frame.live home ≡ Some nums) × AreHeld S home nums
  pub unlisted : (home : ℕ) → 1 ≤ home → home ≤ length frame.front → nat_lt (count base home) (purge_number S home) ≡ false →
      live_at frame.live home ≡ None
  pub homes : length frame.records ≡ length frame.front
  pub order : (home : ℕ) → 1 ≤ home → home ≤ length frame.front → AreOf home (records_at frame.records home)
  pub records : (l : Id) → 1 ≤ l.home → l.home ≤ length frame.front →
      find (is_of l) (records_at frame.records l.home)
      ≡ (if is_held S l && has_news S base l then Some (record_of (length frame.front) S l) else None)
