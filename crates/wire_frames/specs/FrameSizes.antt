-- The number of bytes that a frame takes after the field of its length.
use Rattle.std.specs.Prelude.{◌≤◌, ◌+◌, ◌*◌, ℕ, Option, Some, None, List, IfSome, length}
use Rattle.std.specs.List.{sum_by}
use Rattle.state_facts.specs.Links.{Links}
use Rattle.state_facts.specs.Lists.{In}
use Rattle.state_forest.specs.declared.record.Member.{Member}
use Rattle.state_forest.specs.declared.record.Member.TheVariants.{Nested, Participant, Left}
use Rattle.state_forest.specs.declared.record.Place.{Place}
use Rattle.state_forest.specs.declared.record.Record.{Record}
use Rattle.wire_frames.specs.declared.version.Version.{Version}
use Rattle.wire_frames.specs.declared.version.Version.TheVariants.{One, Two}
use Rattle.wire_frames.specs.Frames.{Frame}

-- one byte for the length, and the link, if it is given
abbrev pub link_size : Option (List ℕ) → ℕ
link_size None = 1
link_size (Some text) = 1 + length text

-- the link for the end, which takes no byte in version 1
abbrev pub after_size : Version → Option (List ℕ) → ℕ
after_size One link = 0
after_size Two link = link_size link

abbrev pub marks_size : Version → ℕ
marks_size One = 3
marks_size Two = 4

abbrev pub links_size : Version → Links → ℕ
links_size v links = link_size links.complete + link_size links.compensate + link_size links.status + link_size links.forget + after_size v links.after

-- a tag, and then either a number, or links, two outcomes and the marks
abbrev pub member_size : Version → Member → ℕ
member_size v (Nested num) = 9
member_size v (Participant p) = 1 + links_size v p.links + marks_size v
member_size v Left = 1

abbrev pub place_size : Option Place → ℕ
place_size None = 1
place_size (Some place) = 10

-- home, number, parent, deadline, decision, stamps, count of members and members
abbrev pub record_size : Version → Record → ℕ
record_size v r = 1 + 8 + place_size r.parent + 8 + 1 + length r.stamps * 8 + 1 + sum_by (member_size v) r.members

-- a tag, and then a count and the numbers
abbrev pub live_size : Option (List ℕ) → ℕ
live_size None = 1
live_size (Some nums) = 3 + length nums * 8

-- the count of nodes, three vectors, the live lists, the count of records and the records
abbrev pub frame_size : Version → Frame → ℕ
frame_size v frame =
    1 + length frame.base * 8 + length frame.front * 8 + length frame.purges * 8 + sum_by live_size frame.live + 2
    + sum_by (λ rs. sum_by (record_size v) rs) frame.records

-- the links are no longer than links can be
pub record AreShort (links : Links) : Type 0 where
  pub complete : IfSome links.complete (λ text. length text ≤ 127)
  pub compensate : IfSome links.compensate (λ text. length text ≤ 127)
  pub status : IfSome links.status (λ text. length text ≤ 127)
  pub forget : IfSome links.forget (λ text. length text ≤ 127)
  pub after : IfSome links.after (λ text. length text ≤ 127)

abbrev pub HasShortLinks : Member → Type 0
HasShortLinks (Nested num) = Unit {0}
HasShortLinks (Participant p) = AreShort p.links
HasShortLinks Left = Unit {0}

-- so are the links of each participant of a frame
abbrev pub IsShort : Frame → Type 0
IsShort frame = (rs : List Record) (r : Record) (m : Member) → In rs frame.records → In r rs → In m r.members → HasShortLinks m
