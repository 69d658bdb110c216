-- Whether a node stores anything of its own yet: at a start it hears from the others first.
use Rattle.std.specs.Prelude.{◌≡◌, ◌⊎◌, ◌↔◌, ◌-◌, ◌&&◌, ◌||◌, ◌==◌, ℕ, Bool, false, List, Option, None, Some, IsTrue, MatchBool, if◌then◌else◌, length, max, nat_le, not, slice_set, true}
use Rattle.std.specs.List.{list_all, list_any}
use Rattle.std.specs.Duration.{as_nanos}
use Rattle.std.specs.declared.time.Duration.{Duration}
use Rattle.state_ids.specs.Fronts.{IsBelow, count, join_fronts}
use Rattle.node_agenda.specs.Moments.{IsAfter}
use Rattle.node_agenda.specs.declared.start_state.StartState.{StartState}

-- 1 for a node that was heard from, and 0 for one that wasn't
abbrev pub is_silent : ℕ → Bool
is_silent count = count == 0

abbrev pub heard_with : ℕ → List ℕ → List ℕ
heard_with node heard = if nat_le node (length heard) then slice_set heard (node - 1) 1 else heard

-- whether each node was heard from
abbrev pub are_heard : List ℕ → Bool
are_heard heard = not (list_any is_silent heard)

-- whether a node with this many facts of its own has as many as is claimed; and as many as each
-- node claims
abbrev pub is_met : (own claim : ℕ) → Bool
is_met own claim = nat_le claim own

abbrev pub are_met : (own : ℕ) → List ℕ → Bool
are_met own claims = list_all (is_met own) claims

-- whether a node with this front has all facts of its own that another sent or claims to have: a
-- claim counts until its node has answered twice since
abbrev pub has_own : List ℕ → StartState → Bool
has_own front o = nat_le (count o.awaited o.me) (count front o.me) && (are_met (count front o.me) o.claimed && are_met (count front o.me) o.doubtful)

-- when it opens at the latest: a second after the first check
abbrev pub IsOpenedBy : Duration → Option Duration → Duration → Type 0
IsOpenedBy now (Some until) by = by ≡ until
IsOpenedBy now None by = IsAfter 1_000 now by

-- Before the time is over, a check opens it if each node was heard from and what they sent is
-- taken. Later it needs no facts of others, and needn't have heard from all, unless it is to wait
-- for all.
abbrev pub IsReady : Bool → List ℕ → StartState → Type 0
IsReady is_over front o =
    MatchBool is_over
    (IsTrue (not o.waits_for_all) ⊎ IsTrue (are_heard o.heard))
    (IsTrue (are_heard o.heard) × IsBelow o.awaited front)

-- a check opens it if it has its own facts, and is ready
abbrev pub IsLookedAt : Bool → List ℕ → StartState → Bool → Type 0
IsLookedAt is_over front o opens = IsTrue opens ↔ (IsTrue (has_own front o) × IsReady is_over front o)

-- when the next check is: a second later, if the time is over and it didn't open
abbrev pub IsNextLook : Bool → (now until next : Duration) → Type 0
IsNextLook is_late now until next = MatchBool is_late (IsAfter 1_000 now next) (next ≡ until)

-- a check by a node with this front opens it, or doesn't
pub record IsOpenedAt (now : Duration) (front : List ℕ) (old new : StartState) : Type 0 where
  pub until : Duration
  pub next : Duration
  pub by : IsOpenedBy now old.opens_at until
  pub opens : IsLookedAt (nat_le (as_nanos until) (as_nanos now)) front old new.is_open
  pub looks : IsNextLook (nat_le (as_nanos until) (as_nanos now) && not new.is_open) now until next
  pub rest : new ≡ record {
    me = old.me;
    waits_for_all = old.waits_for_all;
    is_open = new.is_open;
    opens_at = Some next;
    is_late = old.is_late || (nat_le (as_nanos until) (as_nanos now) && not new.is_open);
    heard = old.heard;
    awaited = old.awaited;
    claimed = old.claimed;
    doubtful = old.doubtful;
  }

-- if it is open it stays so at a check, and that it opens is reported once
abbrev pub IsOpened : Duration → List ℕ → StartState → StartState → Bool → Type 0
IsOpened now front old new result =
    MatchBool old.is_open ((new ≡ old) × (result ≡ false)) (IsOpenedAt now front old new × (result ≡ new.is_open))

-- commands wait for these facts too
abbrev pub with_awaited : List ℕ → StartState → StartState
with_awaited told o = record o { awaited = join_fronts o.awaited told }

-- with another number for a node, if it has a place there
abbrev pub count_at : (node count : ℕ) → List ℕ → List ℕ
count_at node count counts = if nat_le node (length counts) then slice_set counts (node - 1) count else counts

-- another node answered and sent this to a node with the front `known`: more of this node's own
-- facts close it. What the other claimed before is in doubt from then on, and what was already in
-- doubt no longer counts.
abbrev pub heard_now : ℕ → (told known : List ℕ) → StartState → StartState
heard_now other told known o = record o {
  is_open = o.is_open && nat_le (count told o.me) (count known o.me);
  heard = heard_with other o.heard;
  awaited = join_fronts o.awaited told;
  claimed = count_at other 0 o.claimed;
  doubtful = count_at other (count o.claimed other) o.doubtful;
}

abbrev pub heard_by : ℕ → (told known : List ℕ) → StartState → StartState
heard_by other told known o = if length told == length o.awaited then heard_now other told known o else o

-- a start waits for all others, however long that takes
abbrev pub patient : StartState → StartState
patient o = record o { waits_for_all = true }

-- another node, which asks, claims to have this many facts of this one: a start waits for them
abbrev pub claimed_by : (other more : ℕ) → StartState → StartState
claimed_by other more o = if o.is_open then o else record o { claimed = count_at other (max (count o.claimed other) more) o.claimed }

-- nothing is stored before the node has this many facts of its own
abbrev pub own_awaited : ℕ → StartState → StartState
own_awaited more o = record o { is_open = false; awaited = count_at o.me (max (count o.awaited o.me) more) o.awaited }

-- how many facts of this node another claims to have
abbrev pub claim_of : (other : ℕ) → StartState → ℕ
claim_of other o = max (count o.claimed other) (count o.doubtful other)
