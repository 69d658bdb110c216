-- Moments, counted from when the program began.
use Rattle.std.specs.Prelude.{◌≡◌, ◌+◌, ◌*◌, ℕ, Bool, if◌then◌else◌, min, nat_le, nat_lt}
use Rattle.std.specs.Duration.{as_nanos, max_nanos}
use Rattle.std.specs.declared.time.Duration.{Duration}

-- whether a moment has come
abbrev pub is_by : Duration → Duration → Bool
is_by now at = nat_le (as_nanos at) (as_nanos now)

-- the moment this many milliseconds after another, in nanoseconds
abbrev pub nanos_after : ℕ → Duration → ℕ
nanos_after ms now = min (as_nanos now + ms * 1_000_000) max_nanos

-- a moment is this many milliseconds after another
abbrev pub IsAfter : ℕ → Duration → Duration → Type 0
IsAfter ms now at = as_nanos at ≡ nanos_after ms now

-- the earlier of two moments, and the later
abbrev pub earlier_of : Duration → Duration → Duration
earlier_of one other = if nat_lt (as_nanos other) (as_nanos one) then other else one
