-- How a node goes on after its journal failed, or when no thread was to be had.
use Rattle.std.specs.Prelude.{◌≡◌, ◌*◌, ◌-◌, ℕ, Bool, true, false, Option, None, Some, if◌then◌else◌, min, nat_lt}
use Rattle.std.specs.Duration.{as_nanos}
use Rattle.std.specs.declared.time.Duration.{Duration}
use Rattle.node_server.specs.declared.node.backoff.Backoff.{Backoff}

-- each time twice as long, up to a longest time
abbrev pub doubled : (longest time : ℕ) → ℕ
doubled longest time = min (min (time * 2) 18_446_744_073_709_551_615) longest

-- after a pause in which nothing of the node's own is stored: the next is twice as long, up to 1.6
-- seconds
abbrev pub paused : Backoff → Backoff
paused b = record { pause_ms = doubled 1_600 b.pause_ms; rest_ms = b.rest_ms; has_run = b.has_run; warned = b.warned }

-- after a rest before the next try: the next is twice as long, up to a second
abbrev pub rested : Backoff → Backoff
rested b = record { pause_ms = b.pause_ms; rest_ms = doubled 1_000 b.rest_ms; has_run = b.has_run; warned = b.warned }

-- a try succeeded: the next rest is the first again
abbrev pub tried : Backoff → Backoff
tried b = record { pause_ms = b.pause_ms; rest_ms = 100; has_run = b.has_run; warned = b.warned }

-- a run had its threads
abbrev pub ran : Backoff → Backoff
ran b = record { pause_ms = b.pause_ms; rest_ms = 100; has_run = true; warned = b.warned }

-- something was stored: the next pause is the first again
abbrev pub stored : Backoff → Backoff
stored b = record { pause_ms = 100; rest_ms = b.rest_ms; has_run = b.has_run; warned = b.warned }

-- whether the last warning was less than a second ago
abbrev pub is_quiet : Duration → Option Duration → Bool
is_quiet now None = false
is_quiet now (Some warned) = nat_lt (as_nanos now - as_nanos warned) 1_000_000_000

-- after a warning at this moment, if it may be given
abbrev pub warned_at : Duration → Backoff → Backoff
warned_at now b = if is_quiet now b.warned then b else record { pause_ms = b.pause_ms; rest_ms = b.rest_ms; has_run = b.has_run; warned = Some now }
