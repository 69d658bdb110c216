-- Which roots of a node's home have ended, since when their trees show what they show, and when one
-- is to be purged.
use Rattle.std.specs.Prelude.{◌≡◌, ◌≤◌, ◌-◌, ◌*◌, ◌⊎◌, ◌++◌, ◌∷◌, ◌==◌, ◌&&◌, ◌||◌, [], ℕ, Bool, true, false, List, Option, None, Some, MatchBool, if◌then◌else◌, filter, find, is_some, map, max, min, nat_le, nat_lt, not}
use Rattle.std.specs.List.{All, list_any}
use Rattle.std.specs.Option.{option_map, option_map_or}
use Rattle.std.specs.Duration.{as_nanos}
use Rattle.std.specs.declared.time.Duration.{Duration}
use Rattle.state_ids.specs.Ids.{Id, last_number, same_id}
use Rattle.state_ids.specs.States.{rank}
use Rattle.state_ids.specs.declared.status.LraStatus.{LraStatus}
use Rattle.state_ids.specs.declared.status.LraStatus.TheVariants.{Cancelled, Closed, FailedToCancel, FailedToClose}
use Rattle.node_agenda.specs.Censuses.{Counts, counted_over, counting, with_one}
use Rattle.node_agenda.specs.Kept.{Kept}
use Rattle.node_agenda.specs.Looks.{Begins, is_to_look, looked_over, missed, with_stir}
use Rattle.node_agenda.specs.Moments.{nanos_after}
use Rattle.node_agenda.specs.declared.looking.Looking.{Looking}
use Rattle.node_agenda.specs.declared.sweep.Chore.{Chore}
use Rattle.node_agenda.specs.declared.sweep.Chore.TheVariants.{List as ToList, Purge}
use Rattle.node_agenda.specs.declared.sweep.Fill.{Fill}
use Rattle.node_agenda.specs.declared.sweep.Keep.{Keep}
use Rattle.node_agenda.specs.declared.sweep.Purged.{Purged}
use Rattle.node_agenda.specs.declared.sweep.Purged.TheVariants.{Changed, Gone, Later, Missing, Waits}
use Rattle.node_agenda.specs.declared.sweep.TheConstants.{FIRST_PAUSE_MS, LAST_PAUSE_MS}

-- Roots that have ended

-- a root that was seen to have ended: what its tree showed at the last look, since when, and
-- whether the current or the last look has found it; from when on a purge is tried, in nanoseconds,
-- if ever; how long it paused last, in milliseconds; and the LRA of which a participant must be
-- notified first
pub record Root : Type 0 where
  pub id : Id
  pub seen : LraStatus
  pub since : Duration
  pub is_found : Bool
  pub tries_at : Option ℕ
  pub pause : ℕ
  pub waits_for : Option Id

-- whether two statuses are the same
abbrev pub same_status : LraStatus → LraStatus → Bool
same_status a b = rank a == rank b

-- how long a tree that shows this is kept, in milliseconds, if it is ever to be purged
abbrev pub time_of : Keep → LraStatus → Option ℕ
time_of keep Closed = keep.ended
time_of keep Cancelled = keep.ended
time_of keep FailedToClose = keep.failed
time_of keep FailedToCancel = keep.failed
time_of keep _ = None

-- whether anything is ever purged
abbrev pub purges : Keep → Bool
purges keep = is_some keep.ended || is_some keep.failed

-- whether this many nanoseconds are at least this many milliseconds
abbrev pub is_kept_for : Option ℕ → ℕ → Bool
is_kept_for None nanos = false
is_kept_for (Some time) nanos = nat_le (time * 1_000_000) nanos

-- whether it was kept for as long as roots that show the same are to be
abbrev pub is_ripe : Keep → Duration → Root → Bool
is_ripe keep now root = is_kept_for (time_of keep root.seen) (as_nanos now - as_nanos root.since)

-- whether a purge may be tried
abbrev pub is_tried : Duration → Option ℕ → Bool
is_tried now None = false
is_tried now (Some until) = nat_le until (as_nanos now)

-- whether it is to be purged
abbrev pub is_due : Keep → Duration → Root → Bool
is_due keep now root = is_ripe keep now root && is_tried now root.tries_at

-- the first root that is to be purged
abbrev pub first_due : Keep → Duration → List Root → Option Root
first_due keep now ended = find (is_due keep now) ended

abbrev pub kept_of : Root → Kept
kept_of root = record { root = root.id; seen = root.seen }

-- a root whose tree was seen for the first time to show this, or to show something else than before
abbrev pub newcomer : Id → LraStatus → Duration → Root
newcomer id seen now = record { id = id; seen = seen; since = now; is_found = true; tries_at = Some 0; pause = 0; waits_for = None }

-- a root that shows the same as before; and one that a look hasn't found yet
abbrev pub found : Root → Root
found root = record { id = root.id; seen = root.seen; since = root.since; is_found = true; tries_at = root.tries_at; pause = root.pause; waits_for = root.waits_for }

abbrev pub unfound : Root → Root
unfound root = record { id = root.id; seen = root.seen; since = root.since; is_found = false; tries_at = root.tries_at; pause = root.pause; waits_for = root.waits_for }

-- after its tree was seen to show this
abbrev pub seen_as : Id → LraStatus → Duration → Root → Root
seen_as id seen now root = if same_id root.id id then (if same_status root.seen seen then found root else newcomer root.id seen now) else root

abbrev pub is_root : Id → Root → Bool
is_root id root = same_id root.id id

abbrev pub is_found : Root → Bool
is_found root = root.is_found

-- the roots that are left if one is forgotten
abbrev pub without : Id → List Root → List Root
without id ended = filter (λ (root : Root). not (same_id root.id id)) ended

-- Purges that are tried again

-- a root that is tried from this moment on, if ever, after this pause, and first waits for this LRA
abbrev pub tried_from : Option ℕ → ℕ → Option Id → Root → Root
tried_from at pause waits_for root = record { id = root.id; seen = root.seen; since = root.since; is_found = root.is_found; tries_at = at; pause = pause; waits_for = waits_for }

-- the pause in milliseconds that follows another: the first is a second, each further one twice as
-- long, and none longer than a minute
abbrev pub next_pause : ℕ → ℕ
next_pause pause = min LAST_PAUSE_MS (max FIRST_PAUSE_MS (pause * 2))

-- a root whose purge is put off, for longer than the last time, or until a participant of an LRA
-- was notified
abbrev pub waiting : Duration → Option Id → Root → Root
waiting now waits_for root = tried_from (Some (nanos_after (next_pause root.pause) now)) (next_pause root.pause) waits_for root

-- a root whose purge had this result and didn't happen: what is no root is never tried
abbrev pub put_off : Purged → Duration → Root → Root
put_off (Waits other) now root = waiting now (Some other) root
put_off Changed now root = waiting now None root
put_off Later now root = waiting now None root
put_off _ now root = tried_from None root.pause root.waits_for root

abbrev pub put_off_if : Id → Purged → Duration → Root → Root
put_off_if id purged now root = if same_id root.id id then put_off purged now root else root

-- after a participant of an LRA was notified: a root that waited for that is tried at once
abbrev pub freed : Id → Root → Root
freed id root = if option_map_or (λ (other : Id). same_id other id) root.waits_for false then tried_from (Some 0) root.pause None root else root

-- after another node sent something: a root that waits for a participant of any LRA is tried within
-- a second
abbrev pub sooner : ℕ → Option ℕ → Root → Root
sooner soon None root = root
sooner soon (Some until) root = if nat_lt soon until then tried_from (Some soon) 0 root.waits_for root else root

abbrev pub hastened : Duration → Root → Root
hastened now root = if is_some root.waits_for then sooner (nanos_after FIRST_PAUSE_MS now) root.tries_at root else root

-- Looks

-- the node's number, how long trees are kept, the roots that have ended, the LRA beyond which the
-- next page of a look begins, whether a look is under way, when the next one begins, whether an LRA
-- couldn't be begun because the home was full since that was last asked, and what the LRAs of the
-- home show
pub record Sweeps : Type 0 where
  pub number : ℕ
  pub keep : Keep
  pub ended : List Root
  pub beyond : Option Id
  pub looks : Bool
  pub looking : Looking
  pub is_full : Bool
  pub counts : Counts

-- with other roots that have ended; with another reason to look; with another LRA beyond which the
-- next page begins; with other counts; and after an LRA couldn't be begun, or after that was
-- reported
abbrev pub with_ended : List Root → Sweeps → Sweeps
with_ended ended s = record { number = s.number; keep = s.keep; ended = ended; beyond = s.beyond; looks = s.looks; looking = s.looking; is_full = s.is_full; counts = s.counts }

abbrev pub with_looking : Looking → Sweeps → Sweeps
with_looking looking s = record { number = s.number; keep = s.keep; ended = s.ended; beyond = s.beyond; looks = s.looks; looking = looking; is_full = s.is_full; counts = s.counts }

abbrev pub with_beyond : Option Id → Sweeps → Sweeps
with_beyond beyond s = record { number = s.number; keep = s.keep; ended = s.ended; beyond = beyond; looks = s.looks; looking = s.looking; is_full = s.is_full; counts = s.counts }

abbrev pub with_counts : Counts → Sweeps → Sweeps
with_counts counts s = record { number = s.number; keep = s.keep; ended = s.ended; beyond = s.beyond; looks = s.looks; looking = s.looking; is_full = s.is_full; counts = counts }

abbrev pub with_full : Bool → Sweeps → Sweeps
with_full is_full s = record { number = s.number; keep = s.keep; ended = s.ended; beyond = s.beyond; looks = s.looks; looking = s.looking; is_full = is_full; counts = s.counts }

-- One more root is remembered; or, if there is no room for it, that is recorded, and another look
-- follows this one
abbrev pub IsAdded : Id → LraStatus → Duration → (old new : Sweeps) → Type 0
IsAdded id seen now old new =
    (new ≡ with_ended (old.ended ++ newcomer id seen now ∷ []) old)
    ⊎ (new ≡ with_looking (missed old.looking) old)

-- What a tree shows is recorded: its root is forgotten if trees that show this are never purged;
-- otherwise it is remembered
abbrev pub NotesFor : Option ℕ → Duration → Id → LraStatus → (old new : Sweeps) → Type 0
NotesFor None now id seen old new = new ≡ with_ended (without id old.ended) old
NotesFor (Some time) now id seen old new =
    MatchBool (list_any (is_root id) old.ended) (new ≡ with_ended (map (seen_as id seen now) old.ended) old) (IsAdded id seen now old new)

abbrev pub IsNoted : Duration → Id → LraStatus → (old new : Sweeps) → Type 0
IsNoted now id seen old new = NotesFor (time_of old.keep seen) now id seen old new

-- the LRA before all those of a home in the order of pages, if there can be one
abbrev pub before_home : ℕ → Option Id
before_home number = if number == 1 then None else Some (record { home = number - 1; num = last_number })

-- after a look has begun; and after it is over, when the roots that it didn't find are forgotten
abbrev pub begun : Looking → Sweeps → Sweeps
begun looking s = record { number = s.number; keep = s.keep; ended = map unfound s.ended; beyond = before_home s.number; looks = true; looking = looking; is_full = s.is_full; counts = counting s.counts }

abbrev pub looked : Sweeps → Sweeps
looked s = record { number = s.number; keep = s.keep; ended = filter is_found s.ended; beyond = s.beyond; looks = false; looking = looked_over s.counts.counted s.looking; is_full = s.is_full; counts = counted_over s.counts }

-- whether a page that shows an LRA belongs to a look at the home
abbrev pub is_sight : Id → Sweeps → Bool
is_sight id s = s.looks && (id.home == s.number)

-- A page shows an LRA, and what its tree shows: the next page begins beyond it. While a look is
-- under way the LRA is counted and what its tree shows is recorded; an LRA of another home ends the
-- look
abbrev pub IsSeen : Duration → Id → (shown seen : LraStatus) → Sweeps → Sweeps → Type 0
IsSeen now id shown seen old new =
    MatchBool old.looks
    (MatchBool (id.home == old.number)
    (IsNoted now id seen (with_counts (with_one shown old.counts) (with_beyond (Some id) old)) new)
    (new ≡ looked (with_beyond (Some id) old)))
    (new ≡ with_beyond (Some id) old)

-- after a page is over: the last one ends the look
abbrev pub turned : Bool → Sweeps → Sweeps
turned more s = if s.looks && not more then looked s else s

-- after a purge had this result
abbrev pub left_by : Purged → Id → Duration → Sweeps → Sweeps
left_by Gone id now s = with_ended (without id s.ended) s
left_by Missing id now s = with_ended (without id s.ended) s
left_by Changed id now s = with_looking (with_stir s.looking) (with_ended (map (put_off_if id Changed now) s.ended) s)
left_by purged id now s = with_ended (map (put_off_if id purged now) s.ended) s

-- Chores

-- whether there is ever a chore, and whether there is one now
abbrev pub sweeps : Sweeps → Bool
sweeps s = s.looking.counts || purges s.keep

abbrev pub is_chore : Duration → Sweeps → Bool
is_chore now s = sweeps s && (s.looks || (is_some (first_due s.keep now s.ended) || is_to_look now (purges s.keep) s.looking))

-- a look begins that is due, if no root is to be purged
abbrev pub BeginsLook : Duration → Sweeps → Sweeps → Type 0
BeginsLook now old new =
    (is_some (first_due old.keep now old.ended) ≡ false) × (is_to_look now (purges old.keep) old.looking ≡ true)
    × (new ≡ begun new.looking old) × Begins now old.looking new.looking

-- The next chore: a page of the look that is under way or begins now, beyond this LRA; or, if there
-- is no look, the purge of a root that was kept long enough
abbrev pub IsNextChore : Duration → Sweeps → Sweeps → Option Chore → Type 0
IsNextChore now old new None = (is_chore now old ≡ false) × (new ≡ old)
IsNextChore now old new (Some (ToList beyond)) = (sweeps old ≡ true) × (beyond ≡ new.beyond) × MatchBool old.looks (new ≡ old) (BeginsLook now old new)
IsNextChore now old new (Some (Purge kept)) =
    (sweeps old ≡ true) × (old.looks ≡ false) × (option_map kept_of (first_due old.keep now old.ended) ≡ Some kept) × (new ≡ old)

-- how full the home is
abbrev pub fill_of : Sweeps → Fill
fill_of s = record { taken = s.looking.taken; is_refused = s.is_full }

-- What was seen

-- the tree of an LRA was seen on a page, at a moment, to show this
pub record Sight : Type 0 where
  pub now : Duration
  pub id : Id
  pub seen : LraStatus

-- of all sights, the last first: a tree was seen at this moment to show this, and at each later
-- sight too
abbrev pub IsSeenSince : Id → LraStatus → Duration → List Sight → Type 0
IsSeenSince id seen since [] = ⊥
IsSeenSince id seen since (sight ∷ before) =
    MatchBool (same_id id sight.id)
    ((sight.seen ≡ seen) × ((sight.now ≡ since) ⊎ IsSeenSince id seen since before))
    (IsSeenSince id seen since before)

-- what a tree showed when it was last seen, if it ever was
abbrev pub last_seen : Id → List Sight → Option LraStatus
last_seen id [] = None
last_seen id (sight ∷ before) = if same_id id sight.id then Some sight.seen else last_seen id before

-- the sights after a page shows an LRA: those of a look at the home count
abbrev pub sights_after : Duration → Id → LraStatus → Sweeps → List Sight → List Sight
sights_after now id seen s sights = if is_sight id s then record { now = now; id = id; seen = seen } ∷ sights else sights

-- each root is remembered with the moment since when its tree was seen to show what it shows
abbrev pub IsSince : List Sight → Root → Type 0
IsSince sights root = IsSeenSince root.id root.seen root.since sights

abbrev pub AreSince : List Sight → List Root → Type 0
AreSince sights ended = All (IsSince sights) ended

-- a tree was seen to show this at every sight since a moment, and that is as long ago as trees that
-- show this are kept
pub record WasKept (keep : Keep) (now : Duration) (kept : Kept) (sights : List Sight) : Type 0 where
  pub since : Duration
  pub time : ℕ
  pub is_seen : IsSeenSince kept.root kept.seen since sights
  pub is_time : time_of keep kept.seen ≡ Some time
  pub is_long : time * 1_000_000 ≤ as_nanos now - as_nanos since
