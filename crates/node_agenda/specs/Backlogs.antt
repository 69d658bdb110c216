-- What the other nodes sent that isn't stored yet.
use Rattle.std.specs.Prelude.{⊤, ◌≡◌, ◌≤◌, ◌-◌, ◌+◌, ◌*◌, ◌&&◌, ◌||◌, ◌==◌, ℕ, Bool, false, List, Option, None, Some, if◌then◌else◌, is_some, length, max, min, nat_le, nat_lt, not, replicate, slice_index_or, slice_set, true}
use Rattle.std.specs.List.{list_any, range_with_len}
use Rattle.std.specs.declared.time.Duration.{Duration}
use Rattle.state_ids.specs.Fronts.{count}
use Rattle.node_inbox.specs.Tellings.{Told}
use Rattle.node_schedule.specs.Slips.{at_once}
use Rattle.node_agenda.specs.Moments.{IsAfter, is_by}
use Rattle.node_agenda.specs.declared.backlog.Backlog.{Backlog}
use Rattle.node_agenda.specs.declared.backlog.Taking.{Taking}
use Rattle.node_agenda.specs.declared.backlog.TheConstants.{FIRST_RETRY_MS, LAST_RETRY_MS}

-- how many facts of its own the node counted that sent a telling
abbrev pub own_of : Told → ℕ
own_of told = count told.frame.front told.from

abbrev pub own_in : Option Told → ℕ
own_in None = 0
own_in (Some told) = own_of told

-- what a node sent that waits to be taken, and how many facts of its own it counted in that, in what
-- is being taken, and in either
abbrev pub waiting_of : (node : ℕ) → Backlog → Option Told
waiting_of node b = slice_index_or b.waiting (node - 1) None

abbrev pub own_taken : (node : ℕ) → Option Taking → ℕ
own_taken node None = 0
own_taken node (Some taking) = if taking.from == node then taking.own else 0

abbrev pub most_of : (node : ℕ) → Backlog → ℕ
most_of node b = max (own_in (waiting_of node b)) (own_taken node b.taking)

-- A node that asks is owed facts of its own by a node with this front: it sent more of them than it
-- counts, and they aren't stored yet
abbrev pub is_owed : (from : ℕ) → (asks front : List ℕ) → Backlog → Bool
is_owed from asks front b = nat_lt (count asks from) (most_of from b) && nat_lt (count front from) (most_of from b)

-- a telling comes: it takes the place of the one of its node that waits, unless that counts more
-- facts of the node
abbrev pub has_more : Option Told → Told → Bool
has_more waiting told = nat_lt (own_of told) (own_in waiting)

abbrev pub waiting_with : (node : ℕ) → Option Told → Backlog → Backlog
waiting_with node waiting b = record b { waiting = slice_set b.waiting (node - 1) waiting }

abbrev pub after_put : Told → Backlog → Backlog
after_put told b = if has_more (waiting_of told.from b) told then b else waiting_with told.from (Some told) b

abbrev pub left_over : Told → Backlog → Option Told
left_over told b = if has_more (waiting_of told.from b) told then Some told else waiting_of told.from b

-- whether what a node sent is to be taken now: if the journal couldn't take it, only after a pause
abbrev pub is_failed : (node : ℕ) → Backlog → Bool
is_failed node b = slice_index_or b.failed (node - 1) false

abbrev pub is_due_of : Duration → Backlog → (node : ℕ) → Bool
is_due_of now b node = is_some (waiting_of node b) && (not (is_failed node b) || is_by now b.retry_at)

-- whether anything is: nothing is while a telling is being taken
abbrev pub nodes : List ℕ
nodes = range_with_len 1 8

abbrev pub is_any_due : Duration → Backlog → Bool
is_any_due now b = not (is_some b.taking) && list_any (is_due_of now b) nodes

-- the node behind another in the circle of all, and how many steps it is from one to another: 1 to 8
abbrev pub node_behind : ℕ → ℕ
node_behind node = if nat_lt node 8 then node + 1 else 1

abbrev pub steps_to : (last node : ℕ) → ℕ
steps_to last node = if nat_lt last node then node - last else node + 8 - last

-- the first node behind the last one whose telling is to be taken now; none if there is none
pub record IsFirstBehind (last : ℕ) (is_there : ℕ → Bool) (node : ℕ) : Type 0 where
  pub some : 1 ≤ node
  pub one : node ≤ 8
  pub there : is_there node ≡ true
  pub first : (other : ℕ) → 1 ≤ other → other ≤ 8 → is_there other ≡ true → steps_to last node ≤ steps_to last other

abbrev pub IsFirstDue : Duration → Backlog → Option ℕ → Type 0
IsFirstDue now b None = (node : ℕ) → 1 ≤ node → node ≤ 8 → is_due_of now b node ≡ false
IsFirstDue now b (Some node) = IsFirstBehind b.last (is_due_of now b) node

-- that one is taken
pub record IsTaken (now : Duration) (old new : Backlog) (told : Told) : Type 0 where
  pub node : ℕ
  pub free : old.taking ≡ None
  pub first : IsFirstBehind old.last (is_due_of now old) node
  pub waits : waiting_of node old ≡ Some told
  pub rest : new ≡ record old { waiting = slice_set old.waiting (node - 1) None; taking = Some (record { from = node; own = own_of told }); last = node }

abbrev pub IsTakenNext : Duration → (old new : Backlog) → Option Told → Type 0
IsTakenNext now old new None = (is_any_due now old ≡ false) × (new ≡ old)
IsTakenNext now old new (Some told) = IsTaken now old new told

-- the taking of a telling ends: one more of its node has ended
abbrev pub ended_of : (node : ℕ) → Backlog → ℕ
ended_of node b = slice_index_or b.ended (node - 1) 0

abbrev pub one_more : ℕ → ℕ
one_more count = min (count + 1) 18_446_744_073_709_551_615

abbrev pub settled : Option Taking → (has_failed : Bool) → Backlog → Backlog
settled None has_failed b = b
settled (Some taking) has_failed b = record b {
  failed = slice_set b.failed (taking.from - 1) has_failed;
  taking = None;
  ended = slice_set b.ended (taking.from - 1) (one_more (ended_of taking.from b));
}

-- it was taken, or is given up
abbrev pub with_pause : ℕ → Backlog → Backlog
with_pause pause_ms b = record b { pause_ms = pause_ms }

abbrev pub after_end : (is_taken : Bool) → Backlog → Backlog
after_end is_taken b = if is_taken then with_pause FIRST_RETRY_MS (settled b.taking false b) else settled b.taking false b

-- the journal couldn't take it: it waits again, unless its node sent one meanwhile that counts as
-- many facts of the node; and what its node sent is tried again after a pause, which doubles each
-- time
abbrev pub has_as_many : Option Told → Told → Bool
has_as_many None told = false
has_as_many (Some other) told = nat_le (own_of told) (own_of other)

abbrev pub after_return : Told → Backlog → Backlog
after_return told b = if has_as_many (waiting_of told.from b) told then b else waiting_with told.from (Some told) b

abbrev pub not_returned : Told → Backlog → Option Told
not_returned told b = if has_as_many (waiting_of told.from b) told then Some told else waiting_of told.from b

abbrev pub next_pause : ℕ → ℕ
next_pause pause_ms = min (pause_ms * 2) LAST_RETRY_MS

pub record IsKept (now : Duration) (told : Told) (old new : Backlog) : Type 0 where
  pub retry : IsAfter old.pause_ms now new.retry_at
  pub rest : new ≡ record (after_return told (settled old.taking true old)) { retry_at = new.retry_at; pause_ms = next_pause old.pause_ms }

-- whether what a node sent waits because the journal couldn't take it, or waits for its turn
abbrev pub is_kept : (node : ℕ) → Backlog → Bool
is_kept node b = is_some (waiting_of node b) && is_failed node b

abbrev pub is_queued : (node : ℕ) → Backlog → Bool
is_queued node b = is_some (waiting_of node b) && not (is_failed node b)

-- a backlog has a place for each of eight nodes
abbrev pub HasPlaces : Backlog → Type 0
HasPlaces b = length b.waiting ≡ 8

-- what waits at a node's place came from that node
abbrev pub IsFrom : (node : ℕ) → Option Told → Type 0
IsFrom node None = ⊤
IsFrom node (Some told) = told.from ≡ node

abbrev pub AreInPlace : Backlog → Type 0
AreInPlace b = (node : ℕ) → 1 ≤ node → node ≤ 8 → IsFrom node (waiting_of node b)

-- the backlog of a node in which nothing waits
abbrev pub no_backlog : (me : ℕ) → Backlog
no_backlog me = record { waiting = replicate 8 None; failed = replicate 8 false; taking = None; ended = replicate 8 0; last = me; retry_at = at_once; pause_ms = FIRST_RETRY_MS }
