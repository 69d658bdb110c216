-- How long hosts wait for their turn.
use Rattle.std.specs.Prelude.{◌≡◌, ◌≤◌, ◌<◌, ◌-◌, ℕ, Bool, List, Option, None, Some, filter, length, nat_le, suc, true, zero, ⊤}
use Rattle.std.specs.List.{sum_by}
use Rattle.wire_callbacks.specs.declared.duty.Duty.{Duty}
use Rattle.node_schedule.specs.Turns.{AtHost, IsTaken, Turns, busy_with, host_at, may_be_called, next_turn, place_of, unsure_calls}

-- whether a host's turn isn't behind the one with this number
abbrev pub is_ahead : ℕ → AtHost → Bool
is_ahead turn host = nat_le host.turn turn

-- how many hosts' turns aren't, counting the host itself whose turn it is
abbrev pub ahead : ℕ → List AtHost → ℕ
ahead turn hosts = length (filter (is_ahead turn) hosts)

-- how many calls are under way in all
abbrev pub all_calls : List AtHost → ℕ
all_calls hosts = sum_by (λ (host : AtHost). host.calls) hosts

-- One of four callers is left to quick hosts: at most three calls to others are under way.
abbrev pub LeavesOne : List AtHost → Type 0
LeavesOne hosts = unsure_calls hosts ≤ 3

-- how many calls besides one are under way to the host at a place, and to that of a duty
abbrev pub other_calls_at : Option ℕ → List AtHost → ℕ
other_calls_at None hosts = 0
other_calls_at (Some place) hosts = (host_at hosts place).calls - 1

abbrev pub other_calls : Duty → List AtHost → ℕ
other_calls duty hosts = other_calls_at (place_of duty hosts) hosts

-- a host whose turn has this number waits for it: it may be called, and isn't being called
pub record IsWaiting (turn : ℕ) (now : Turns) : Type 0 where
  pub place : ℕ
  pub within : place < length now.hosts
  pub its : (host_at now.hosts place).turn ≡ turn
  pub may : may_be_called (busy_with now.hosts) (host_at now.hosts place) ≡ true
  pub idle : (host_at now.hosts place).calls ≡ 0
  pub came : turn < next_turn now.turns

-- `count` calls begin one after another, before each of which that host waits; what comes between
-- them doesn't add hosts ahead of it, and doesn't change whose turn is next
unfoldable pub WaitsFor : ℕ → ℕ → Turns → Type 0
WaitsFor zero turn now = ⊤
WaitsFor (suc count) turn now =
    IsWaiting turn now × ((duty : Duty) × (mid : Turns) × (next : Turns) × IsTaken now mid (Some duty) × (next.is_for_new ≡ mid.is_for_new) × (ahead turn next.hosts ≤ ahead turn mid.hosts) × WaitsFor count turn next)
