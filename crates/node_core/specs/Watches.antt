-- What a node warns its operators of, and what it remembers for that.
use Rattle.std.specs.Prelude.{◌+◌, ◌-◌, ◌*◌, ◌^◌, ◌&&◌, ◌==◌, ℕ, Bool, List, Option, None, Some, false, if◌then◌else◌, min, nat_le, nat_lt, not, slice_index_or}
use Rattle.std.specs.Duration.{as_nanos}
use Rattle.std.specs.declared.time.Duration.{Duration}
use Rattle.state_ids.specs.States.{rank}
use Rattle.state_ids.specs.declared.status.LraStatus.TheVariants.{FailedToCancel, FailedToClose}
use Rattle.state_forest.specs.declared.shape.TheConstants.{MAX_HELD}
use Rattle.node_agenda.specs.declared.sweep.Fill.{Fill}
use Rattle.node_core.specs.declared.watch.CopyTroubles.{CopyTroubles}
use Rattle.node_core.specs.declared.watch.CopyWarnings.{CopyWarnings}
use Rattle.node_core.specs.declared.watch.DiskWarning.{DiskWarning}
use Rattle.node_core.specs.declared.watch.DiskWarning.TheVariants.{Answers, Hangs}
use Rattle.node_core.specs.declared.watch.TheConstants.{CLAIM_LOOKS, MANY, MOST, QUIET_MS, REFUSED}

-- less than a minute has passed since this moment, at which something was logged
abbrev pub is_quiet : Duration → (since : Option Duration) → Bool
is_quiet now None = false
is_quiet now (Some since) = nat_lt (as_nanos now - as_nanos since) (QUIET_MS * 1_000_000)

-- A home that fills up.

-- the level that was logged last, or 0 if there was room since; and when that was
pub record LoggedFill : Type 0 where
  pub level : ℕ
  pub since : Option Duration

abbrev pub no_fill : LoggedFill
no_fill = record { level = 0; since = None }

-- this percentage of a home's places is taken, or more
abbrev pub has_taken : (percent : ℕ) → Fill → Bool
has_taken percent fill = nat_le (percent * MAX_HELD) (fill.taken * 100)

-- how full a home is: nine tenths, three quarters, or less; or so full that an LRA was refused
abbrev pub level_of : Fill → ℕ
level_of fill = if fill.is_refused then REFUSED else if has_taken MOST fill then MOST else if has_taken MANY fill then MANY else 0

-- the level that counts as logged: none once there is room and a minute has passed
abbrev pub level_left : Fill → Duration → LoggedFill → ℕ
level_left fill now a = if level_of fill == 0 && not (is_quiet now a.since) then 0 else a.level

-- a home is warned of if it is fuller than was logged
abbrev pub is_fuller : Fill → Duration → LoggedFill → Bool
is_fuller fill now a = nat_lt (level_left fill now a) (level_of fill)

abbrev pub fill_noted : Fill → Duration → LoggedFill → LoggedFill
fill_noted fill now a = if is_fuller fill now a then record { level = level_of fill; since = Some now } else record { level = level_left fill now a; since = a.since }

-- Things that are counted, such as connections that were closed.

-- how many weren't logged yet; and when some were logged last
pub record Unlogged : Type 0 where
  pub count : ℕ
  pub since : Option Duration

abbrev pub none_unlogged : Unlogged
none_unlogged = record { count = 0; since = None }

abbrev pub count_with : (count : ℕ) → Unlogged → ℕ
count_with count a = min (a.count + count) (2 ^ 64 - 1)

-- some weren't logged yet, and the last warning is a minute old, if there was one
abbrev pub is_count_due : (count : ℕ) → Duration → Unlogged → Bool
is_count_due count now a = nat_lt 0 (count_with count a) && not (is_quiet now a.since)

-- how many to log now, if there is to be a warning; and what is remembered after that
abbrev pub count_due : (count : ℕ) → Duration → Unlogged → Option ℕ
count_due count now a = if is_count_due count now a then Some (count_with count a) else None

abbrev pub count_noted : (count : ℕ) → Duration → Unlogged → Unlogged
count_noted count now a = if is_count_due count now a then record { count = 0; since = Some now } else record { count = count_with count a; since = a.since }

-- LRAs that failed.

-- how many were logged, or fewer if fewer are left; and when that was
pub record LoggedFailures : Type 0 where
  pub told : ℕ
  pub since : Option Duration

abbrev pub no_failures : LoggedFailures
no_failures = record { told = 0; since = None }

-- how many LRAs failed to close or to cancel, if so many show each status, by rank
abbrev pub failed_of : (held : List ℕ) → ℕ
failed_of held = min (slice_index_or held (rank FailedToClose) 0 + slice_index_or held (rank FailedToCancel) 0) (2 ^ 64 - 1)

-- there are more than were logged, and the last warning is a minute old, if there was one
abbrev pub are_failures_due : (failed : ℕ) → Duration → LoggedFailures → Bool
are_failures_due failed now a = nat_lt a.told failed && not (is_quiet now a.since)

abbrev pub failures_due : (failed : ℕ) → Duration → LoggedFailures → Option ℕ
failures_due failed now a = if are_failures_due failed now a then Some failed else None

abbrev pub failures_noted : (failed : ℕ) → Duration → LoggedFailures → LoggedFailures
failures_noted failed now a = if are_failures_due failed now a then record { told = failed; since = Some now } else record { told = min a.told failed; since = a.since }

-- A disk that hangs.

-- it began to hang, or it answers again after it hung for a time
abbrev pub disk_warning : (hung hangs : Option Duration) → Option DiskWarning
disk_warning None None = None
disk_warning None (Some time) = Some (Hangs time)
disk_warning (Some time) None = Some (Answers time)
disk_warning (Some _) (Some _) = None

-- Copies.

abbrev pub untroubled : CopyTroubles
untroubled = record { is_short = false; is_strange = false; is_doubted = false }

-- enough nodes have the facts again; and the other two troubles are new
abbrev pub copy_warnings : (was seen : CopyTroubles) → CopyWarnings
copy_warnings was seen = record {
  are_copied = was.is_short && not seen.is_short;
  is_strange = seen.is_strange && not was.is_strange;
  is_doubted = seen.is_doubted && not was.is_doubted;
}

-- A start that waits for what another node claims.

-- at how many looks in a row a start has waited
abbrev pub looks_noted : (waits : Bool) → (looks : ℕ) → ℕ
looks_noted waits looks = if waits then min (looks + 1) (2 ^ 64 - 1) else 0

-- it waits now, and did at so many looks before
abbrev pub is_claim_due : (waits : Bool) → (looks : ℕ) → Bool
is_claim_due waits looks = waits && looks == CLAIM_LOOKS
