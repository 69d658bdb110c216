-- The hosts at which participants are called, and whose turn it is.
use Rattle.std.specs.Prelude.{◌≡◌, ◌<◌, ◌+◌, ◌-◌, ◌^◌, ◌==◌, ◌++◌, ◌∷◌, [], ℕ, Bool, true, false, List, Option, None, Some, if◌then◌else◌, filter, is_some, length, min, nat_lt, not, slice_index_or, slice_set}
use Rattle.std.specs.List.{position_from}
use Rattle.std.specs.Str.{bytes_eq}
use Rattle.wire_callbacks.specs.declared.duty.Duty.{Duty}
use Rattle.node_schedule.specs.Links.{host_of}
use Rattle.node_schedule.specs.declared.host.Busy.{Busy}
use Rattle.node_schedule.specs.declared.pace.Pace.{Pace}
use Rattle.node_schedule.specs.declared.pace.Pace.TheVariants.{Hanging, Quick, Refusing, Slow, Unknown}

-- a host: its name, the duties queued there, in order, how many calls are under way, how it
-- answered the last one, the number of the turn at which its last call began or at which it came,
-- and whether the last list had a participant there
pub record AtHost : Type 0 where
  pub name : List ℕ
  pub due : List Duty
  pub calls : ℕ
  pub pace : Pace
  pub turn : ℕ
  pub is_listed : Bool

-- the hosts, how many turns there were, and whether the next belongs to the newest host, if one was
-- never called
pub record Turns : Type 0 where
  pub hosts : List AtHost
  pub turns : ℕ
  pub is_for_new : Bool

-- an empty host, for a place without one
abbrev pub nowhere : AtHost
nowhere = record { name = []; due = []; calls = 0; pace = Unknown; turn = 0; is_listed = false }

abbrev pub host_at : List AtHost → ℕ → AtHost
host_at hosts place = slice_index_or hosts place nowhere

-- how many calls to a host may be under way at once: two, if its last one was heard quickly
abbrev pub share : Pace → ℕ
share Quick = 2
share Unknown = 1
share Slow = 1
share Refusing = 1
share Hanging = 1

abbrev pub is_slow : Pace → Bool
is_slow Quick = false
is_slow Unknown = false
is_slow Slow = true
is_slow Refusing = false
is_slow Hanging = false

abbrev pub is_hanging : Pace → Bool
is_hanging Quick = false
is_hanging Unknown = false
is_hanging Slow = false
is_hanging Refusing = false
is_hanging Hanging = true

abbrev pub is_quick : Pace → Bool
is_quick Quick = true
is_quick Unknown = false
is_quick Slow = false
is_quick Refusing = false
is_quick Hanging = false

abbrev pub is_unknown : Pace → Bool
is_unknown Quick = false
is_unknown Unknown = true
is_unknown Slow = false
is_unknown Refusing = false
is_unknown Hanging = false

-- whether a duty is queued there
abbrev pub is_due : AtHost → Bool
is_due host = nat_lt 0 (length host.due)

-- whether a call to it is under way, and it is slow; or its last call hung; or it isn't quick
abbrev pub is_called_slowly : AtHost → Bool
is_called_slowly host = if is_slow host.pace then nat_lt 0 host.calls else false

abbrev pub is_called_as_hanging : AtHost → Bool
is_called_as_hanging host = if is_hanging host.pace then nat_lt 0 host.calls else false

abbrev pub is_called_unsurely : AtHost → Bool
is_called_unsurely host = if is_quick host.pace then false else nat_lt 0 host.calls

-- how many calls are under way to slow hosts, to hanging hosts, and to all that aren't quick: at
-- most one to each of them
abbrev pub slow_calls : List AtHost → ℕ
slow_calls hosts = length (filter is_called_slowly hosts)

abbrev pub hanging_calls : List AtHost → ℕ
hanging_calls hosts = length (filter is_called_as_hanging hosts)

abbrev pub unsure_calls : List AtHost → ℕ
unsure_calls hosts = length (filter is_called_unsurely hosts)

-- how many calls are under way to hosts that may hold a thread for long
abbrev pub busy_with : List AtHost → Busy
busy_with hosts = record { unsure = unsure_calls hosts; slow = slow_calls hosts; hanging = hanging_calls hosts }

-- whether a call may begin beside these to a host of this pace. To a quick one always. To any other
-- only if, with this call, at most three calls to hosts that aren't quick are under way; in
-- addition, to a slow one only if at most two to slow hosts are, and to a hanging one only if at
-- most two to hanging hosts are
abbrev pub has_room : Busy → Pace → Bool
has_room busy Quick = true
has_room busy Unknown = nat_lt busy.unsure 3
has_room busy Slow = if nat_lt busy.slow 2 then nat_lt busy.unsure 3 else false
has_room busy Refusing = nat_lt busy.unsure 3
has_room busy Hanging = if nat_lt busy.hanging 2 then nat_lt busy.unsure 3 else false

-- whether a thread may call there while these calls are under way: a duty is queued, fewer calls
-- than its share are under way, and there is room
abbrev pub may_be_called : Busy → AtHost → Bool
may_be_called busy host = if nat_lt host.calls (share host.pace) then (if has_room busy host.pace then is_due host else false) else false

-- whether it was never called, and has a duty queued
abbrev pub is_new : AtHost → Bool
is_new host = if is_unknown host.pace then (if host.calls == 0 then is_due host else false) else false

-- whether its turn comes before another's: a host that isn't being called goes first, and then the
-- one whose last call began longest ago
abbrev pub is_before : AtHost → AtHost → Bool
is_before host other = if host.calls == 0 then (if other.calls == 0 then nat_lt host.turn other.turn else true) else (if other.calls == 0 then false else nat_lt host.turn other.turn)

-- whether it came later than another host
abbrev pub is_newer : AtHost → AtHost → Bool
is_newer host other = nat_lt other.turn host.turn

-- of the first `count` hosts, the one at this place may be chosen, and no other that may be chosen
-- goes before it
pub record IsChosen (count : ℕ) (may : AtHost → Bool) (before : AtHost → AtHost → Bool) (hosts : List AtHost) (place : ℕ) : Type 0 where
  pub within : place < count
  pub may_be : may (host_at hosts place) ≡ true
  pub first : (k : ℕ) → k < count → may (host_at hosts k) ≡ true → before (host_at hosts k) (host_at hosts place) ≡ false

-- the place of the host that is chosen of the first `count`; none if none of them may be
abbrev pub IsFirstOf : ℕ → (AtHost → Bool) → (AtHost → AtHost → Bool) → List AtHost → Option ℕ → Type 0
IsFirstOf count may before hosts None = (k : ℕ) → k < count → may (host_at hosts k) ≡ false
IsFirstOf count may before hosts (Some place) = IsChosen count may before hosts place

-- the place of the host that has waited longest for its turn, of those that may be called
abbrev pub IsLongest : List AtHost → Option ℕ → Type 0
IsLongest hosts place = IsFirstOf (length hosts) (may_be_called (busy_with hosts)) is_before hosts place

-- the place of the host that came last, of those that were never called
abbrev pub IsNewest : List AtHost → Option ℕ → Type 0
IsNewest hosts place = IsFirstOf (length hosts) is_new is_newer hosts place

-- that place, if it is the newest host's turn
abbrev pub IsNewestNow : Bool → List AtHost → Option ℕ → Type 0
IsNewestNow false hosts place = place ≡ None
IsNewestNow true hosts place = IsNewest hosts place

-- this place or, if there is none, that of the host that has waited longest
abbrev pub IsThatElseLongest : Option ℕ → List AtHost → Option ℕ → Type 0
IsThatElseLongest None hosts place = IsLongest hosts place
IsThatElseLongest (Some that) hosts place = place ≡ Some that

-- whether it is the newest host's turn, if one was never called: every second turn is, if there is
-- room for a call to such a host
abbrev pub is_newest_turn : Turns → Bool
is_newest_turn now = if now.is_for_new then has_room (busy_with now.hosts) Unknown else false

-- the place of the host that is called next, if one may be
abbrev pub IsNext : Turns → Option ℕ → Type 0
IsNext now place = (newest : Option ℕ) × IsNewestNow (is_newest_turn now) now.hosts newest × IsThatElseLongest newest now.hosts place

-- whether some host may be called: one that would be called next
abbrev pub MayTake : Turns → Bool → Type 0
MayTake now may = (place : Option ℕ) × IsNext now place × (may ≡ is_some place)

-- at this turn the call for the first duty in a host's queue begins
pub record Begins (turn : ℕ) (duty : Duty) (old new : AtHost) : Type 0 where
  pub first : old.due ≡ duty ∷ new.due
  pub rest : new ≡ record { name = old.name; due = new.due; calls = old.calls + 1; pace = old.pace; turn = turn; is_listed = old.is_listed }

-- the number of the next turn: turns are counted up to 2^64 - 1
abbrev pub next_turn : ℕ → ℕ
next_turn turn = min (turn + 1) (2 ^ 64 - 1)

-- the call for the first duty queued at the host at this place begins, and nothing else changes
pub record BeginsAt (place : ℕ) (duty : Duty) (old new : Turns) : Type 0 where
  pub begins : Begins (next_turn old.turns) duty (host_at old.hosts place) (host_at new.hosts place)
  pub others : new.hosts ≡ slice_set old.hosts place (host_at new.hosts place)
  pub turns : new.turns ≡ next_turn old.turns
  pub for_new : new.is_for_new ≡ not old.is_for_new

-- what is taken: the first duty queued at the host that is called next; none if no host may be
-- called
abbrev pub IsTaken : Turns → Turns → Option Duty → Type 0
IsTaken old new None = IsNext old None × (new ≡ old)
IsTaken old new (Some duty) = (place : ℕ) × IsNext old (Some place) × BeginsAt place duty old new

-- whether it is the host at which a duty's participant is called
abbrev pub is_host_of : Duty → AtHost → Bool
is_host_of duty host = bytes_eq host.name (host_of duty)

-- the place of that host, if it is known
abbrev pub place_of : Duty → List AtHost → Option ℕ
place_of duty hosts = position_from (is_host_of duty) 0 hosts

-- a host with a participant that is to be called later
abbrev pub listed : AtHost → AtHost
listed host = record { name = host.name; due = host.due; calls = host.calls; pace = host.pace; turn = host.turn; is_listed = true }

-- a host with one more duty, behind the others
abbrev pub with_due : Duty → AtHost → AtHost
with_due duty host = record { name = host.name; due = host.due ++ duty ∷ []; calls = host.calls; pace = host.pace; turn = host.turn; is_listed = true }

-- a host of which a call is over that was answered in this way
abbrev pub with_end : Pace → AtHost → AtHost
with_end pace host = record { name = host.name; due = host.due; calls = host.calls - 1; pace = pace; turn = host.turn; is_listed = host.is_listed }

-- a host from which the duties are taken back that no thread has begun
abbrev pub recalled : AtHost → AtHost
recalled host = record { name = host.name; due = []; calls = host.calls; pace = host.pace; turn = host.turn; is_listed = false }

-- whether a participant there is to be called, or is being called
abbrev pub is_kept : AtHost → Bool
is_kept host = if host.is_listed then true else nat_lt 0 host.calls

-- a host that has come at this turn, with its first duty
abbrev pub newcomer : Duty → ℕ → AtHost
newcomer duty turn = record { name = host_of duty; due = duty ∷ []; calls = 0; pace = Unknown; turn = turn; is_listed = true }

-- with a change to the host at this place, if there is one
abbrev pub changed_at : Option ℕ → (AtHost → AtHost) → List AtHost → List AtHost
changed_at None change hosts = hosts
changed_at (Some place) change hosts = slice_set hosts place (change (host_at hosts place))

-- these hosts, and as many turns as before
abbrev pub with_hosts : List AtHost → Turns → Turns
with_hosts hosts now = record { hosts = hosts; turns = now.turns; is_for_new = now.is_for_new }

-- a duty is queued at its host behind the others; the host is added if it isn't known; if memory
-- runs out the duty isn't queued
abbrev pub IsPutAt : Option ℕ → Duty → Turns → Turns → Bool → Type 0
IsPutAt (Some place) duty old new true = new ≡ with_hosts (changed_at (Some place) (with_due duty) old.hosts) old
IsPutAt (Some place) duty old new false = new ≡ with_hosts (changed_at (Some place) listed old.hosts) old
IsPutAt None duty old new true = new ≡ record { hosts = old.hosts ++ newcomer duty (next_turn old.turns) ∷ []; turns = next_turn old.turns; is_for_new = old.is_for_new }
IsPutAt None duty old new false = new ≡ old

abbrev pub IsPut : Duty → Turns → Turns → Bool → Type 0
IsPut duty old new is_put = IsPutAt (place_of duty old.hosts) duty old new is_put
