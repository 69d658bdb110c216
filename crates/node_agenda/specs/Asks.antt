-- How many facts of its own each other node counted when it asked this one. A node that counts
-- fewer than before has begun anew, over a lost or an older journal.
use Rattle.std.specs.Prelude.{◌+◌, ◌^◌, ◌-◌, ◌&&◌, ◌==◌, ℕ, Bool, List, if◌then◌else◌, min, nat_lt, not, replicate}
use Rattle.state_ids.specs.Fronts.{count}
use Rattle.node_agenda.specs.Starts.{count_at}

-- for each node, how many it counted the last time, and how often that was fewer than the time
-- before
pub record Asks : Type 0 where
  pub own : List ℕ
  pub anew : List ℕ

abbrev pub unasked : (nodes : ℕ) → Asks
unasked nodes = record { own = replicate nodes 0; anew = replicate nodes 0 }

-- how often a node began anew, as far as it has asked since
abbrev pub times_anew : (other : ℕ) → Asks → ℕ
times_anew other a = count a.anew other

-- a node asks, and counts this many facts of its own
abbrev pub asked_by : (other own : ℕ) → Asks → Asks
asked_by other own a = record {
  own = count_at other own a.own;
  anew = if nat_lt own (count a.own other) then count_at other (min (count a.anew other + 1) (2 ^ 64 - 1)) a.anew else a.anew;
}

-- what a node sent is from before it began anew: it has begun anew since it was asked for that, and
-- sent more facts of its own than it counts by now
abbrev pub is_of_before : (other seen told : ℕ) → Asks → Bool
is_of_before other seen told a = not (count a.anew other == seen) && nat_lt (count a.own other) told
