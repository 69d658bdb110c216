-- What an index holds.
use Rattle.std.specs.Prelude.{◌≡◌, ◌↔◌, ◌≤◌, ◌<◌, ◌+◌, ◌-◌, ◌^◌, ◌==◌, ℕ, IfSome, Option, Some, None, List, [], ◌∷◌, length, map, min, nat_lt, slice_index_or, if◌then◌else◌}
use Rattle.state_ids.specs.declared.TheConstants.{MAX_NODES}
use Rattle.state_ids.specs.Ids.{Id, same_id}
use Rattle.state_ids.specs.Fronts.{count}
use Rattle.state_stamps.specs.declared.stamp_entry.StampEntry.{StampEntry}
use Rattle.state_stamps.specs.Entries.{In, IsRising, entry_of, id_of, put_entry, without}

-- the entries of an origin, and how many more fit without asking for memory
pub record HeldEntries : Type 0 where
  pub entries : List StampEntry
  pub spare : ℕ

-- the entries of each origin, and how many more fit at each origin without asking for memory
pub record HeldIndex : Type 0 where
  pub origins : List (List StampEntry)
  pub spare : ℕ

-- the entries of each origin, the first node's first
abbrev pub entries_of : List HeldEntries → List (List StampEntry)
entries_of os = map (λ (o : HeldEntries). o.entries) os

-- the least room of all; if there are no origins, any number fits
abbrev pub least_spare : List HeldEntries → ℕ
least_spare [] = 2 ^ 64
least_spare (o ∷ os) = min o.spare (least_spare os)

-- the stamp of an origin, 0 if there are no stamps
abbrev pub stamp_at : Option (List ℕ) → ℕ → ℕ
stamp_at None origin = 0
stamp_at (Some v) origin = count v origin

-- The entries of an origin are those of what is known. They have each stamp of an LRA's record that
-- isn't 0, once, in order of stamp, then home, then number.
pub record IsIndexOf (origin : ℕ) (entries : List StampEntry) (stamps : Id → Option (List ℕ)) : Type 0 where
  pub rising : IsRising entries
  pub held : (e : StampEntry) → In e entries ↔ ((1 ≤ e.stamp) × (stamp_at (stamps (id_of e)) origin ≡ e.stamp))

-- the entries of an origin, none if there is no such origin
abbrev pub entries_at : List (List StampEntry) → ℕ → List StampEntry
entries_at origins origin = slice_index_or origins (origin - 1) []

-- so at each existing origin, where the stamps are of at most eight nodes
pub record AreIndexesOf (origins : List (List StampEntry)) (stamps : Id → Option (List ℕ)) : Type 0 where
  pub each : (origin : ℕ) → 1 ≤ origin → origin ≤ length origins → IsIndexOf origin (entries_at origins origin) stamps
  pub few : (l : Id) → IfSome (stamps l) (λ v. length v ≤ MAX_NODES)

-- what is known, with these stamps for one LRA
abbrev pub with_stamps : Id → Option (List ℕ) → (Id → Option (List ℕ)) → Id → Option (List ℕ)
with_stamps l stamps known m = if same_id m l then stamps else known m

-- the list without the entry of a stamp
abbrev pub without_stamp : Id → ℕ → List StampEntry → List StampEntry
without_stamp l stamp es = if nat_lt 0 stamp then without (entry_of stamp l) es else es

-- the list with the entry of a stamp
abbrev pub with_stamp : Id → ℕ → List StampEntry → List StampEntry
with_stamp l stamp es = if nat_lt 0 stamp then put_entry (entry_of stamp l) es else es

-- the list with one stamp of an LRA replaced by another
abbrev pub with_exchange : Id → ℕ → ℕ → List StampEntry → List StampEntry
with_exchange l was now es = if was == now then es else with_stamp l now (without_stamp l was es)

-- that is done at one origin: adding an entry takes up room for at most one, and adding none takes
-- up no room
pub record IsRestamped (l : Id) (was now : ℕ) (old new : HeldEntries) : Type 0 where
  pub entries : new.entries ≡ with_exchange l was now old.entries
  pub spare : old.spare ≤ new.spare + 1
  pub kept : now ≡ 0 → old.spare ≤ new.spare

-- the entries and the room of the origin at a place
abbrev pub at_place : List HeldEntries → ℕ → HeldEntries
at_place os k = slice_index_or os k (record { entries = []; spare = 0 })

-- at each origin the old stamp is replaced by the new one
pub record AreRestamped (l : Id) (was now : Option (List ℕ)) (old new : List HeldEntries) : Type 0 where
  pub same : length new ≡ length old
  pub each : (k : ℕ) → k < length old → IsRestamped l (stamp_at was (k + 1)) (stamp_at now (k + 1)) (at_place old k) (at_place new k)

-- the same entries, with no less room, and with room for this many more
pub record IsReserved (more : ℕ) (old new : HeldEntries) : Type 0 where
  pub entries : new.entries ≡ old.entries
  pub kept : old.spare ≤ new.spare
  pub room : more ≤ new.spare

-- so at each origin
pub record AreReserved (more : ℕ) (old new : List HeldEntries) : Type 0 where
  pub same : length new ≡ length old
  pub each : (k : ℕ) → k < length old → IsReserved more (at_place old k) (at_place new k)
