-- When held pulls are served.
use Rattle.std.specs.Prelude.{◌+◌, ◌-◌, ◌*◌, ◌/◌, ◌≢◌, ◌≤◌, ℕ, Bool, List, Option, None, Some, IsTrue, if◌then◌else◌, false, min, not, replicate, slice_index_or, slice_set}
use Rattle.std.specs.Duration.{as_nanos}
use Rattle.std.specs.declared.time.Duration.{Duration}
use Rattle.node_replication.specs.Moments.{is_over, is_over_since}
use Rattle.node_replication.specs.declared.standing.PullDecision.{PullDecision}
use Rattle.node_replication.specs.declared.standing.PullDecision.TheVariants.{Later, Serve, Soon}

-- When each node last asked, and when it last got a frame; when a run ended that none has followed
-- yet; and how long a change from one run to the next takes, in nanoseconds
pub record Pace : Type 0 where
  pub asked : List (Option Duration)
  pub given : List (Option Duration)
  pub ended : Option Duration
  pub change : Option ℕ

-- before any node asked
abbrev pub at_rest : Pace
at_rest = record { asked = replicate 8 None; given = replicate 8 None; ended = None; change = None }

-- the moment recorded for a node, if any
abbrev pub moment_of : List (Option Duration) → (node : ℕ) → Option Duration
moment_of moments node = slice_index_or moments (node - 1) None

abbrev pub asked_at : (other : ℕ) → (now : Duration) → Pace → Pace
asked_at other now p = record p { asked = slice_set p.asked (other - 1) (Some now) }

abbrev pub given_at : (other : ℕ) → (now : Duration) → Pace → Pace
given_at other now p = record p { given = slice_set p.given (other - 1) (Some now) }

-- whether a node asked within the last second
abbrev pub listens : (asked : Option Duration) → (now : Duration) → Bool
listens (Some at) now = not (is_over 1_000_000_000 at now)
listens None now = false

-- each other node of a group of this size did
abbrev pub DoAllListen : (me nodes : ℕ) → (now : Duration) → Pace → Type 0
DoAllListen me nodes now p = (node : ℕ) → 1 ≤ node → node ≤ nodes → node ≢ me → IsTrue (listens (moment_of p.asked node) now)

abbrev pub with_end : (now : Duration) → Pace → Pace
with_end now p = record p { ended = Some now }

-- the mean after a change that took this long: the newest counts for an eighth
abbrev pub mean_with : (mean : Option ℕ) → (nanos : ℕ) → ℕ
mean_with (Some mean) nanos = (mean - mean / 8) + nanos / 8
mean_with None nanos = nanos

-- nanoseconds from one moment to another, as many as 64 bits hold
abbrev pub nanos_between : (since now : Duration) → ℕ
nanos_between since now = min (as_nanos now - as_nanos since) 18_446_744_073_709_551_615

-- after the next run has begun
abbrev pub with_change : (ended : Option Duration) → (now : Duration) → Pace → Pace
with_change (Some at) now p = record p { ended = None; change = Some (mean_with p.change (nanos_between at now)) }
with_change None now p = p

abbrev pub with_begin : (now : Duration) → Pace → Pace
with_begin now p = with_change p.ended now p

abbrev pub change_of : Option ℕ → ℕ
change_of (Some nanos) = nanos
change_of None = 0

-- the least number of nanoseconds between two frames for the same node: a change of runs for each
-- other node, and at most 50 ms
abbrev pub gap : (nodes : ℕ) → Pace → ℕ
gap nodes p = min ((nodes - 1) * change_of p.change) 50_000_000

-- how long a pull without news is held at most: half a second if its asker lacks facts of others,
-- and four if it lacks nothing
abbrev pub longest : (lacks_others : Bool) → ℕ
longest lacks_others = if lacks_others then 500_000_000 else 4_000_000_000

-- what is done with a pull that has waited since a moment
abbrev pub verdict_of : (nodes other : ℕ) → (since : Duration) → (has_news lacks_others : Bool) → (now : Duration) → Pace → PullDecision
verdict_of nodes other since has_news lacks_others now p =
    if has_news then (if is_over_since (gap nodes p) (moment_of p.given other) now then Serve else Soon)
    else (if is_over (longest lacks_others) since now then Serve else Later)
