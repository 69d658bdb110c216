-- Which participants have failing calls at a moment, and for how long.
use Rattle.std.specs.Prelude.{◌-◌, ◌∷◌, [], ℕ, Bool, List, Option, None, Some, filter, is_some, length, max}
use Rattle.std.specs.Duration.{as_nanos}
use Rattle.std.specs.declared.time.Duration.{Duration}
use Rattle.node_schedule.specs.declared.plight.Vain.{Vain}
use Rattle.node_schedule.specs.declared.slip.Slip.{Slip}

-- whether a participant's calls fail: its last call did
abbrev pub is_in_vain : Slip → Bool
is_in_vain slip = is_some slip.vain

-- how many participants have failing calls
abbrev pub count_in_vain : List Slip → ℕ
count_in_vain slips = length (filter is_in_vain slips)

-- for how long a participant's calls have failed, in nanoseconds: since the first of them was over;
-- zero if its last call didn't fail
abbrev pub time_since : Duration → Option Vain → ℕ
time_since now None = 0
time_since now (Some vain) = as_nanos now - as_nanos vain.since

abbrev pub time_in_vain : Duration → Slip → ℕ
time_in_vain now slip = time_since now slip.vain

-- for how long the calls of the worst participant have failed
abbrev pub longest_in_vain : Duration → List Slip → ℕ
longest_in_vain now [] = 0
longest_in_vain now (slip ∷ slips) = max (time_in_vain now slip) (longest_in_vain now slips)
