-- When calls of a participant count as failing, and what is logged of that.
use Rattle.std.specs.Prelude.{◌≡◌, ◌+◌, ◌-◌, ◌^◌, ℕ, Bool, Option, None, Some, min, nat_le, string_bytes}
use Rattle.std.specs.Duration.{as_nanos}
use Rattle.std.specs.declared.time.Duration.{Duration}
use Rattle.wire_callbacks.specs.declared.duty.Duty.{Duty}
use Rattle.node_schedule.specs.Links.{host_of}
use Rattle.node_schedule.specs.declared.plight.CallFailure.{CallFailure}
use Rattle.node_schedule.specs.declared.plight.Plight.{Plight}
use Rattle.node_schedule.specs.declared.plight.Vain.{Vain}

-- one minute, and ten minutes, in nanoseconds
abbrev pub minute : ℕ
minute = 60_000_000_000

abbrev pub ten_minutes : ℕ
ten_minutes = 600_000_000_000

-- whether it is logged now: a minute after the first of these calls was over, and again ten minutes
-- after it was last logged
abbrev pub is_told_from : Option Duration → Duration → Duration → Bool
is_told_from None since now = nat_le minute (as_nanos now - as_nanos since)
is_told_from (Some told) since now = nat_le ten_minutes (as_nanos now - as_nanos told)

abbrev pub is_told_at : Duration → Vain → Bool
is_told_at now vain = is_told_from vain.told vain.since now

-- the failed calls with one more
abbrev pub vain_after : Option Vain → CallFailure → Duration → Vain
vain_after None came now = record { calls = 1; since = now; came = came; told = None }
vain_after (Some vain) came now = record { calls = min (vain.calls + 1) (2 ^ 32 - 1); since = vain.since; came = came; told = vain.told }

abbrev pub told_at : Duration → Vain → Vain
told_at now vain = record { calls = vain.calls; since = vain.since; came = vain.came; told = Some now }

-- what is logged is of this participant and of these calls
pub record Tells (vain : Vain) (duty : Duty) (now : Duration) (is_over : Bool) (plight : Plight) : Type 0 where
  pub id : plight.id ≡ duty.id
  pub member : plight.member ≡ duty.member
  pub kind : plight.kind ≡ duty.kind
  pub host : string_bytes plight.host ≡ host_of duty
  pub calls : plight.calls ≡ vain.calls
  pub time : as_nanos plight.time ≡ as_nanos now - as_nanos vain.since
  pub came : plight.came ≡ vain.came
  pub over : plight.is_over ≡ is_over
