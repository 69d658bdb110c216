-- The versions of frames: their numbers, and what version 1 doesn't have.
use Rattle.std.specs.Prelude.{◌&&◌, ℕ, zero, suc, Bool, true, false, Option, List, is_none, is_some, nat_le}
use Rattle.std.specs.List.{list_any}
use Rattle.state_forest.specs.declared.record.Member.{Member}
use Rattle.state_forest.specs.declared.record.Member.TheVariants.{Nested, Participant, Left}
use Rattle.state_forest.specs.declared.record.Record.{Record}
use Rattle.wire_frames.specs.declared.version.Version.{Version}
use Rattle.wire_frames.specs.declared.version.Version.TheVariants.{One, Two}
use Rattle.wire_frames.specs.Frames.{Frame}

abbrev pub version_mark : Version → ℕ
version_mark One = 1
version_mark Two = 2

abbrev pub is_version : ℕ → Bool
is_version n = nat_le 1 n && nat_le n 2

-- the version with a number
abbrev pub version_of : ℕ → Version
version_of zero = One
version_of (suc zero) = One
version_of (suc (suc n)) = Two

abbrev pub is_first : Version → Bool
is_first One = true
is_first Two = false

-- whether a version has the link for the end
abbrev pub knows : Version → Option (List ℕ) → Bool
knows One link = is_none link
knows Two link = true

-- the member is a participant with a link for the end of its LRA, which version 1 doesn't have
abbrev pub listens : Member → Bool
listens (Participant p) = is_some p.links.after
listens (Nested num) = false
listens Left = false

-- a record of the frame has such a participant, so the frame needs version 2
abbrev pub needs_two : Frame → Bool
needs_two frame = list_any (λ rs. list_any (λ (r : Record). list_any listens r.members) rs) frame.records
