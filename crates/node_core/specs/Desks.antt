-- Since when each thread with a pass has waited for a call at the desk.
use Rattle.std.specs.Prelude.{◌-◌, ◌*◌, ℕ, Bool, List, Option, None, Some, max, nat_le, nat_lt, if◌then◌else◌, replicate, slice_set}
use Rattle.std.specs.Duration.{as_nanos}
use Rattle.std.specs.List.{fold}
use Rattle.std.specs.declared.time.Duration.{Duration}

-- since when the thread at each of eight places has waited
pub record Waits : Type 0 where
  pub since : List (Option Duration)

abbrev pub nobody : Waits
nobody = record { since = replicate 8 None }

abbrev pub with_since : (place : ℕ) → Option Duration → Waits → Waits
with_since place since w = if nat_lt place 8 then record { since = slice_set w.since place since } else w

abbrev pub begun : (place : ℕ) → Duration → Waits → Waits
begun place now w = with_since place (Some now) w

abbrev pub ended : (place : ℕ) → Waits → Waits
ended place w = with_since place None w

-- how long a thread has waited by now, in nanoseconds; and whether that is at least this many
-- milliseconds
abbrev pub waited : Duration → Option Duration → ℕ
waited now None = 0
waited now (Some since) = as_nanos now - as_nanos since

abbrev pub has_waited : Duration → (millis : ℕ) → Option Duration → Bool
has_waited now millis since = nat_le (millis * 1_000_000) (waited now since)

-- the longest that any thread has waited by now, in nanoseconds
abbrev pub longest_wait : Duration → List (Option Duration) → ℕ
longest_wait now all = fold (λ time since. max time (waited now since)) 0 all
