-- Moments, counted from when the program began.
use Rattle.std.specs.Prelude.{◌-◌, ℕ, Bool, Option, None, Some, nat_le, true}
use Rattle.std.specs.Duration.{as_nanos}
use Rattle.std.specs.declared.time.Duration.{Duration}

-- whether this many nanoseconds have passed since a moment
abbrev pub is_over : (nanos : ℕ) → (since now : Duration) → Bool
is_over nanos since now = nat_le nanos (as_nanos now - as_nanos since)

-- the same, and true if there is no such moment
abbrev pub is_over_since : (nanos : ℕ) → (since : Option Duration) → (now : Duration) → Bool
is_over_since nanos (Some since) now = is_over nanos since now
is_over_since nanos None now = true
