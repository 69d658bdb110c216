-- the encoding of a frame, one for each version
use Rattle.std.specs.Prelude.{◌++◌, ℕ, List, [], Bool, true, false, Option, Some, None, length}
use Rattle.std.specs.List.{flat_map}
use Rattle.std.specs.Int.{w8, w16, w32, w64, to_be_bytes}
use Rattle.state_ids.specs.declared.outcome.Verdict.{Verdict}
use Rattle.state_ids.specs.declared.outcome.Verdict.TheVariants.{Close, Cancel}
use Rattle.state_ids.specs.declared.outcome.Outcome.{Outcome}
use Rattle.state_ids.specs.declared.outcome.Outcome.TheVariants.{Busy, Done, Failed}
use Rattle.state_forest.specs.declared.record.Place.{Place}
use Rattle.state_forest.specs.declared.record.Participant.{Participant as ParticipantRecord}
use Rattle.state_forest.specs.declared.record.Member.{Member}
use Rattle.state_forest.specs.declared.record.Member.TheVariants.{Nested, Participant, Left}
use Rattle.state_forest.specs.declared.record.Record.{Record}
use Rattle.state_facts.specs.Links.{Links}
use Rattle.wire_frames.specs.declared.marks.Marks.{Marks}
use Rattle.wire_frames.specs.declared.version.Version.{Version}
use Rattle.wire_frames.specs.declared.version.Version.TheVariants.{One, Two}
use Rattle.wire_frames.specs.Frames.{Frame}
use Rattle.wire_frames.specs.Versions.{version_mark}

abbrev pub byte : ℕ → List ℕ
byte n = to_be_bytes w8 n

abbrev pub two_bytes : ℕ → List ℕ
two_bytes n = to_be_bytes w16 n

abbrev pub four_bytes : ℕ → List ℕ
four_bytes n = to_be_bytes w32 n

abbrev pub number : ℕ → List ℕ
number n = to_be_bytes w64 n

abbrev pub vector : List ℕ → List ℕ
vector ns = flat_map number ns

-- the place where an LRA is nested
unfoldable pub place : Place → List ℕ
place p = number p.number ++ byte p.slot

abbrev pub parent_mark : Option Place → ℕ
parent_mark None = 0
parent_mark (Some p) = 1

abbrev pub parent_body : Option Place → List ℕ
parent_body None = []
parent_body (Some p) = place p

unfoldable pub parent : Option Place → List ℕ
parent p = byte (parent_mark p) ++ parent_body p

abbrev pub decision_mark : Option Verdict → ℕ
decision_mark None = 0
decision_mark (Some Close) = 1
decision_mark (Some Cancel) = 2

abbrev pub outcome_mark : Option Outcome → ℕ
outcome_mark None = 0
outcome_mark (Some Busy) = 1
outcome_mark (Some Done) = 2
outcome_mark (Some Failed) = 3

abbrev pub flag_mark : Bool → ℕ
flag_mark false = 0
flag_mark true = 1

-- a link's text, which is empty for no link
abbrev pub link_text : Option (List ℕ) → List ℕ
link_text None = []
link_text (Some text) = text

-- a text with its length before it
unfoldable pub counted : List ℕ → List ℕ
counted text = byte (length text) ++ text

-- the link for the end, which takes no byte in version 1
abbrev pub after_link : Version → Option (List ℕ) → List ℕ
after_link One link = []
after_link Two link = counted (link_text link)

abbrev pub told_mark : Version → Bool → List ℕ
told_mark One told = []
told_mark Two told = byte (flag_mark told)

unfoldable pub links_text : Version → Links → List ℕ
links_text v l =
    counted (link_text l.complete) ++ (counted (link_text l.compensate) ++ (counted (link_text l.status) ++ (counted (link_text l.forget) ++ after_link v l.after)))

-- the marks of a participant: what was heard of it, and what it was told
abbrev pub marks_of : ParticipantRecord → Marks
marks_of p = record { completed = p.completed; compensated = p.compensated; forgotten = p.forgotten; told = p.told }

unfoldable pub marks_text : Version → Marks → List ℕ
marks_text v m = byte (outcome_mark m.completed) ++ (byte (outcome_mark m.compensated) ++ (byte (flag_mark m.forgotten) ++ told_mark v m.told))

unfoldable pub participant : Version → ParticipantRecord → List ℕ
participant v p = links_text v p.links ++ marks_text v (marks_of p)

abbrev pub member_mark : Member → ℕ
member_mark (Nested n) = 0
member_mark (Participant p) = 1
member_mark Left = 2

abbrev pub member_body : Version → Member → List ℕ
member_body v (Nested n) = number n
member_body v (Participant p) = participant v p
member_body v Left = []

unfoldable pub member : Version → Member → List ℕ
member v m = byte (member_mark m) ++ member_body v m

unfoldable pub members : Version → List Member → List ℕ
members v ms = byte (length ms) ++ flat_map (member v) ms

unfoldable pub record_text_as : Version → Record → List ℕ
record_text_as v r =
    byte r.home ++ (number r.num ++ (parent r.parent ++ (number r.deadline ++ (byte (decision_mark r.decision) ++ (vector r.stamps ++ (members v r.members))))))

-- the numbers of a home's LRAs that are held
unfoldable pub live_list : List ℕ → List ℕ
live_list ns = two_bytes (length ns) ++ flat_map number ns

abbrev pub live_mark : Option (List ℕ) → ℕ
live_mark None = 0
live_mark (Some ns) = 1

abbrev pub live_body : Option (List ℕ) → List ℕ
live_body None = []
live_body (Some ns) = live_list ns

unfoldable pub live : Option (List ℕ) → List ℕ
live o = byte (live_mark o) ++ live_body o

unfoldable pub records : Version → List Record → List ℕ
records v rs = two_bytes (length rs) ++ flat_map (record_text_as v) rs

-- the records of all homes, one home after another
abbrev pub flat : List (List Record) → List Record
flat homes = flat_map (λ rs. rs) homes

-- what stands after the length
unfoldable pub body : Version → Frame → List ℕ
body v d =
    byte (length d.base) ++ (vector d.base ++ (vector d.front ++ (vector d.purges ++ (flat_map live d.live ++ records v (flat d.records)))))

-- the letters LRAD
abbrev pub magic : ℕ
magic = 0x4c524144

abbrev pub encoding_as : Version → Frame → List ℕ
encoding_as v d = four_bytes magic ++ (byte (version_mark v) ++ (four_bytes (length (body v d)) ++ body v d))

-- Version 2, which is what nodes write

abbrev pub record_text : Record → List ℕ
record_text r = record_text_as Two r

abbrev pub encoding : Frame → List ℕ
encoding d = encoding_as Two d
