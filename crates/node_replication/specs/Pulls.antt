-- How the next pull from another node is made.
use Rattle.std.specs.Prelude.{◌≡◌, ◌+◌, ◌*◌, ◌&&◌, ◌||◌, ℕ, Bool, List, [], ◌∷◌, if◌then◌else◌, false, min, nat_lt, not, true}
use Rattle.std.specs.declared.time.Duration.{Duration}
use Rattle.node_replication.specs.Moments.{is_over}
use Rattle.node_replication.specs.Spreads.{last_ticket}
use Rattle.node_replication.specs.declared.pulls.NextPull.{NextPull}
use Rattle.node_replication.specs.declared.pulls.Pulled.{Pulled}
use Rattle.node_replication.specs.declared.pulls.Pulled.TheVariants.{Kept, Lost, Misdirected, New, Newer, Nothing, Older, Refused, Untaken}

-- the first pull: it waits for nothing
abbrev pub first : NextPull
first = record { round_ms = 100; pause_ms = 0; wait_ms = 0; waits = false; holds = false; hasty = 0 }

-- whether a pull was held that began then and is over now: it was allowed to wait, and took at
-- least 400 ms
abbrev pub is_held : (began now : Duration) → NextPull → Bool
is_held began now p = p.waits && is_over 400_000_000 began now

-- how long a round is after a pull, in milliseconds: half a second if there was something new;
-- otherwise twice what it was, and at most five seconds
abbrev pub round_after : Pulled → (round : ℕ) → ℕ
round_after New round = 500
round_after Untaken round = 500
round_after Newer round = 500
round_after _ round = min (round * 2) 5_000

-- how long to pause after it, whatever news there is: a round if the next one would have the same
-- result
abbrev pub pause_after : Pulled → (round : ℕ) → ℕ
pause_after (Refused number) round = round
pause_after Misdirected round = round
pause_after Lost round = round
pause_after Kept round = round
pause_after _ round = 50

-- whether the next one may wait at the other node: that node gives frames, and what it sent is
-- taken
abbrev pub may_wait : Pulled → Bool
may_wait New = true
may_wait Nothing = true
may_wait Older = true
may_wait _ = false

-- whether the next one follows at once: this one brought something, or brought nothing and was
-- held, or wasn't allowed to wait
abbrev pub is_at_once : Pulled → (is_held waits : Bool) → Bool
is_at_once New is_held waits = true
is_at_once Nothing is_held waits = is_held || not waits
is_at_once _ is_held waits = false

-- whether the other node is known to hold pulls: it held this one, or one before it since it last
-- began to answer again; or it sends this node pulls that wait
abbrev pub holds_after : Pulled → (is_held asks_waiting holds : Bool) → Bool
holds_after Nothing is_held asks_waiting holds = (holds || is_held) || asks_waiting
holds_after pulled is_held asks_waiting holds = may_wait pulled && holds

-- how many pulls in a row weren't followed at once
abbrev pub hasty_after : (is_at_once : Bool) → (hasty : ℕ) → ℕ
hasty_after is_at_once hasty = if is_at_once then 0 else min (hasty + 1) last_ticket

-- whether the next one doesn't wait for news: this one brought nothing, and the other node is known
-- to hold pulls, or may yet; or what was sent isn't taken, and is sent once more
abbrev pub is_soon : Pulled → (holds : Bool) → (hasty : ℕ) → Bool
is_soon Nothing holds hasty = holds || nat_lt hasty 32
is_soon Untaken holds hasty = true
is_soon _ holds hasty = false

-- the next one, given whether it follows at once, and what is known of the other node then
abbrev pub next_of : Pulled → (is_at_once holds : Bool) → (round hasty : ℕ) → NextPull
next_of pulled is_at_once holds round hasty = record {
  round_ms = round;
  pause_ms = if is_at_once then 0 else pause_after pulled round;
  wait_ms = if is_at_once || is_soon pulled holds hasty then 0 else round;
  waits = may_wait pulled;
  holds = holds;
  hasty = hasty;
}

-- the one after a pull that had this result, and was held or not, of a node that sends pulls that
-- wait, or doesn't
abbrev pub behind : Pulled → (is_held asks_waiting : Bool) → NextPull → NextPull
behind pulled is_held asks_waiting p =
    let at_once = is_at_once pulled is_held p.waits in
    next_of pulled at_once (holds_after pulled is_held asks_waiting p.holds) (round_after pulled p.round_ms) (hasty_after at_once p.hasty)

-- the result of a pull, whether it was held, and whether the other node sent pulls that wait
pub record Came : Type 0 where
  pub pulled : Pulled
  pub is_held : Bool
  pub asks_waiting : Bool

-- a node of an older version holds no pull, and sends none that waits
abbrev pub HoldsNone : Came → Type 0
HoldsNone came = (came.is_held ≡ false) × (came.asks_waiting ≡ false)

-- the one after some pulls, with the last first
abbrev pub behind_all : List Came → NextPull
behind_all [] = first
behind_all (came ∷ earlier) = behind came.pulled came.is_held came.asks_waiting (behind_all earlier)

-- a pull of a node of an older version that brought nothing
abbrev pub nothing_at_once : Came
nothing_at_once = record { pulled = Nothing; is_held = false; asks_waiting = false }
