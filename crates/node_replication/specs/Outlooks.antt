-- What is remembered of trouble with another node, to log it once.
use Rattle.std.specs.Prelude.{◌&&◌, ◌||◌, ◌∷◌, [], Bool, List, Option, None, Some, false, not}
use Rattle.std.specs.declared.time.Duration.{Duration}
use Rattle.node_replication.specs.Moments.{is_over}

-- Since when nothing was received from it, and whether that was logged; and whether it was logged
-- that a journal is older, or that what it sends can't be taken
pub record Trouble : Type 0 where
  pub since : Option Duration
  pub is_told : Bool
  pub is_odd : Bool

-- before anything is wrong
abbrev pub none : Trouble
none = record { since = None; is_told = false; is_odd = false }

-- since when nothing was received, after a failed pull that began then: since the first such pull
-- began
abbrev pub since_of : Option Duration → (began : Duration) → Duration
since_of (Some since) began = since
since_of None began = began

-- whether that is to be logged now: it has lasted for five seconds, and wasn't logged
abbrev pub is_due : (began now : Duration) → Trouble → Bool
is_due began now t = not t.is_told && is_over 5_000_000_000 (since_of t.since began) now

-- a pull failed
abbrev pub with_failure : (began now : Duration) → Trouble → Trouble
with_failure began now t = record t { since = Some (since_of t.since began); is_told = t.is_told || is_due began now t }

-- a pull was answered
abbrev pub with_answer : Trouble → Trouble
with_answer t = record t { since = None; is_told = false }

-- a journal is older or what was sent can't be taken; or neither is so any more
abbrev pub with_odd : (is_odd : Bool) → Trouble → Trouble
with_odd is_odd t = record t { is_odd = is_odd }

-- a failed pull, which began then
pub record Failure : Type 0 where
  pub began : Duration
  pub now : Duration

-- after some failed pulls, with the last first
abbrev pub after_failures : List Failure → Trouble → Trouble
after_failures [] t = t
after_failures (failure ∷ earlier) t = with_failure failure.began failure.now (after_failures earlier t)
