-- the rule of each field, and what has an encoding
use Rattle.std.specs.Prelude.{◌≡◌, ◌+◌, ◌-◌, ◌*◌, ◌^◌, ◌<◌, ◌&&◌, ◌||◌, ◌==◌, ℕ, List, [], ◌∷◌, Bool, true, Option, Some, None, length, is_none, is_some, nat_lt, nat_le, slice_index, filter, map, if◌then◌else◌}
use mathlib.Core.Bool.{not}
use Rattle.std.specs.List.{list_any, list_all, AllByRecursion, zip}
use Rattle.state_ids.specs.declared.TheConstants.{MAX_NODES}
use Rattle.state_ids.specs.Ids.{last_number}
use Rattle.state_forest.specs.declared.record.TheConstants.{MAX_MEMBERS}
use Rattle.state_forest.specs.declared.shape.TheConstants.{MAX_HELD}
use Rattle.state_forest.specs.declared.record.Place.{Place}
use Rattle.state_forest.specs.declared.record.Participant.{Participant as ParticipantRecord}
use Rattle.state_forest.specs.declared.record.Member.{Member}
use Rattle.state_forest.specs.declared.record.Member.TheVariants.{Nested, Participant, Left}
use Rattle.state_forest.specs.declared.record.Record.{Record}
use Rattle.state_facts.specs.Links.{are_links}
use Rattle.state_facts.specs.LinkTexts.{is_kept}
use Rattle.state_forest.specs.declared.merging.Told.{Told}
use Rattle.state_forest.specs.RecordMerges.{held_numbers}
use Rattle.state_forest.specs.Records.{nodes_to}
use Rattle.wire_frames.specs.Frames.{Frame, is_beyond, live_at}
use Rattle.wire_frames.specs.declared.order.Last.{Last}
use Rattle.wire_frames.specs.declared.version.Version.{Version}
use Rattle.wire_frames.specs.declared.version.Version.TheVariants.{One, Two}
use Rattle.wire_frames.specs.FrameFields.{Along}
use Rattle.wire_frames.specs.Versions.{is_first, knows}
use Rattle.wire_frames.specs.Encoding.{body, flat, outcome_mark, flag_mark}

abbrev pub is_mark : ℕ → Bool
is_mark t = nat_le t 1

-- the number of a parent
abbrev pub is_above : ℕ → ℕ → Bool
is_above num n = nat_le 1 n && nat_lt n num

abbrev pub is_slot : ℕ → Bool
is_slot s = nat_le 1 s && nat_le s MAX_MEMBERS

pub record IsPlace (num : ℕ) (p : Place) : Type 0 where
  pub number : is_above num p.number ≡ true
  pub wide : p.number < 2 ^ 64
  pub slot : is_slot p.slot ≡ true

abbrev pub IsParent : ℕ → Option Place → Type 0
IsParent num None = Unit {0}
IsParent num (Some p) = IsPlace num p

abbrev pub is_decision : ℕ → Bool
is_decision n = nat_le n 2

abbrev pub is_outcome : ℕ → Bool
is_outcome n = nat_le n 3

-- an outcome, which must be none without its link
abbrev pub is_outcome_for : Option (List ℕ) → ℕ → Bool
is_outcome_for link n = nat_le n 3 && (is_some link || (n == 0))

abbrev pub is_mark_for : Option (List ℕ) → ℕ → Bool
is_mark_for link n = nat_le n 1 && (is_some link || (n == 0))

abbrev pub is_given_length : ℕ → Bool
is_given_length n = nat_le 1 n && nat_le n 127

-- the length of a link that may be needed, or not allowed
abbrev pub is_length_for : (needed allowed : Bool) → ℕ → Bool
is_length_for needed allowed n = nat_le n 127 && ((not needed || nat_le 1 n) && (allowed || (n == 0)))

abbrev pub may_be : (needed allowed : Bool) → Option (List ℕ) → Bool
may_be needed allowed link = (not needed || is_some link) && (allowed || is_none link)

-- the link for the end, which version 1 doesn't have
abbrev pub may_be_after : Version → (needed : Bool) → Option (List ℕ) → Bool
may_be_after One needed link = is_none link
may_be_after Two needed link = may_be needed true link

-- a link to compensate is needed in version 1, and if there is one to complete
abbrev pub needs_compensate : Version → Option (List ℕ) → Bool
needs_compensate v complete = is_first v || is_some complete

abbrev pub is_kept_or_none : List ℕ → Bool
is_kept_or_none [] = true
is_kept_or_none (c ∷ text) = is_kept (c ∷ text)

abbrev pub IsLink : Option (List ℕ) → Type 0
IsLink None = Unit {0}
IsLink (Some text) = (is_given_length (length text) ≡ true) × (is_kept text ≡ true)

-- The links are those of a participant of the saga, or in version 2 only the one for the end.
-- Nothing is there that has no link
pub record IsParticipant (v : Version) (p : ParticipantRecord) : Type 0 where
  pub complete : IsLink p.links.complete
  pub compensate : IsLink p.links.compensate
  pub status : IsLink p.links.status
  pub forget : IsLink p.links.forget
  pub after : IsLink p.links.after
  pub together : are_links p.links ≡ true
  pub known : knows v p.links.after ≡ true
  pub completed : is_outcome_for p.links.complete (outcome_mark p.completed) ≡ true
  pub compensated : is_outcome_for p.links.compensate (outcome_mark p.compensated) ≡ true
  pub forgotten : is_mark_for p.links.forget (flag_mark p.forgotten) ≡ true
  pub told : is_mark_for p.links.after (flag_mark p.told) ≡ true

-- above the number of the record and of every earlier nested LRA, and at most the home's stamp
abbrev pub is_nested : ℕ → ℕ → ℕ → Bool
is_nested last stamp n = nat_lt last n && nat_le n stamp

abbrev pub IsMember : Version → ℕ → ℕ → Member → Type 0
IsMember v stamp last (Nested n) = (n < 2 ^ 64) × (is_nested last stamp n ≡ true)
IsMember v stamp last (Participant p) = IsParticipant v p
IsMember v stamp last Left = Unit {0}

abbrev pub next_nested : ℕ → Member → ℕ
next_nested last (Nested n) = n
next_nested last (Participant p) = last
next_nested last Left = last

abbrev pub is_member_count : ℕ → Bool
is_member_count n = nat_le n MAX_MEMBERS

-- counts

abbrev pub is_node_count : ℕ → Bool
is_node_count n = nat_le 1 n && nat_le n MAX_NODES

abbrev pub are_counts : List ℕ → Bool
are_counts ns = list_all (λ n. nat_le n last_number) ns

-- each number is at most the limit at its place
abbrev pub at_most : List ℕ → List ℕ → Bool
at_most limits ns = list_all (λ p. nat_le p.0 p.1) (zip ns limits)

abbrev pub is_front : List ℕ → List ℕ → Bool
is_front base ns = are_counts ns && at_most ns base

-- live lists

abbrev pub is_live_mark : ℕ → ℕ → ℕ → Bool
is_live_mark base purge t = t == (if nat_lt base purge then 1 else 0)

abbrev pub is_live_count : ℕ → Bool
is_live_count n = nat_le n MAX_HELD

abbrev pub is_live_number : ℕ → ℕ → ℕ → Bool
is_live_number count last n = nat_lt last n && nat_le n count

abbrev pub AreLive : ℕ → List ℕ → Type 0
AreLive top ns = (is_live_count (length ns) ≡ true) × Along (λ last n. (n < 2 ^ 64) × (is_live_number top last n ≡ true)) (λ last n. n) 0 ns

abbrev pub IsLive : ℕ → ℕ → ℕ → Option (List ℕ) → Type 0
IsLive base purge count None = is_live_mark base purge 0 ≡ true
IsLive base purge count (Some ns) =
    (is_live_mark base purge 1 ≡ true) × AreLive count ns

-- records

-- the context in which a record is read
pub record Context : Type 0 where
  pub version : Version
  pub base : List ℕ
  pub front : List ℕ
  pub lives : List (Option (List ℕ))

abbrev pub is_home : ℕ → ℕ → ℕ → Bool
is_home nodes last home = nat_le 1 home && (nat_le home nodes && nat_le last home)

abbrev pub is_among : Option (List ℕ) → ℕ → Bool
is_among (Some ns) num = list_any (λ n. n == num) ns
is_among None num = true

abbrev pub is_next : Last → ℕ → ℕ → Bool
is_next last home num = if last.home == home then nat_lt last.num num && nat_lt last.count MAX_HELD else true

abbrev pub is_number : Context → Last → ℕ → ℕ → Bool
is_number k last home num =
    nat_le 1 num && (nat_le num (slice_index k.front (home - 1)) && (is_next last home num && is_among (live_at k.lives home) num))

abbrev pub are_stamps : Context → ℕ → ℕ → List ℕ → Bool
are_stamps k home num ns = at_most k.front ns && (nat_le num (slice_index ns (home - 1)) && is_beyond k.base ns)

pub record IsRecord (k : Context) (last : Last) (r : Record) : Type 0 where
  pub home : is_home (length k.front) last.home r.home ≡ true
  pub small : r.home < 2 ^ 8
  pub num : is_number k last r.home r.num ≡ true
  pub wide : r.num < 2 ^ 64
  pub parent : IsParent r.num r.parent
  pub deadline : r.deadline < 2 ^ 64
  pub nodes : length r.stamps ≡ length k.front
  pub stamps : are_stamps k r.home r.num r.stamps ≡ true
  pub wide_stamps : AllByRecursion (λ n. n < 2 ^ 64) r.stamps
  pub count : is_member_count (length r.members) ≡ true
  pub members : Along (IsMember k.version (slice_index r.stamps (r.home - 1))) next_nested r.num r.members

abbrev pub start : Last
start = record { home = 0; num = 0; count = 0 }

abbrev pub after : Last → Record → Last
after last r = record { home = r.home; num = r.num; count = (if last.home == r.home then last.count + 1 else 1) }

abbrev pub is_record_count : ℕ → ℕ → Bool
is_record_count nodes n = nat_le n (MAX_HELD * nodes)

abbrev pub context : Version → Frame → Context
context v d = record { version = v; base = d.base; front = d.front; lives = d.live }

-- the context for a base, a front and what is told of each home
abbrev pub told_context : Version → (base front : List ℕ) → List Told → Context
told_context v base front homes = record { version = v; base = base; front = front; lives = map (λ (told : Told). held_numbers told.held) homes }

-- the records of each home from 1 to this many
abbrev pub by_home : ℕ → List Record → List (List Record)
by_home nodes rs = map (λ home. filter (λ (r : Record). r.home == home) rs) (nodes_to nodes)

pub record IsBody (v : Version) (d : Frame) : Type 0 where
  pub nodes : is_node_count (length d.base) ≡ true
  pub base : are_counts d.base ≡ true
  pub same_nodes : length d.front ≡ length d.base
  pub front : is_front d.base d.front ≡ true
  pub purge_nodes : length d.purges ≡ length d.base
  pub purges : at_most d.front d.purges ≡ true
  pub live_nodes : length d.live ≡ length d.base
  pub lives : Along (λ i o. IsLive (slice_index d.base i) (slice_index d.purges i) (slice_index d.front i) o) (λ i o. i + 1) 0 d.live
  pub count : is_record_count (length d.base) (length (flat d.records)) ≡ true
  pub records : Along (IsRecord (context v d)) after start (flat d.records)
  pub homes : d.records ≡ by_home (length d.base) (flat d.records)

abbrev pub is_frame_length : ℕ → Bool
is_frame_length n = nat_le n 67108855

-- the frame has an encoding of a version
pub record IsDeltaAs (v : Version) (d : Frame) : Type 0 where
  pub is_body : IsBody v d
  pub short : is_frame_length (length (body v d)) ≡ true

-- the frame has an encoding of version 2
abbrev pub IsDelta : Frame → Type 0
IsDelta d = IsDeltaAs Two d
