-- A record that keeps the rules of version 1 keeps those of version 2.
use Rattle.std.proofs.Common.{◌-◌, ℕ, List, [], ◌∷◌, refl}
use Rattle.std.specs.Prelude.{slice_index}
use Rattle.state_forest.specs.declared.record.Participant.{Participant as ParticipantRecord}
use Rattle.state_forest.specs.declared.record.Member.{Member}
use Rattle.state_forest.specs.declared.record.Member.TheVariants.{Nested, Participant, Left}
use Rattle.state_forest.specs.declared.record.Record.{Record}
use Rattle.wire_frames.specs.declared.version.Version.TheVariants.{One, Two}
use Rattle.wire_frames.specs.FrameFields.{Along}
use Rattle.wire_frames.specs.OneRecord.{IsRecordUnder, IsRecordUnderAs}
use Rattle.wire_frames.specs.Rules.{IsMember, IsParticipant, next_nested}

participant_first : (p : ParticipantRecord) → IsParticipant One p → IsParticipant Two p
participant_first p f = record {
  complete = f.complete;
  compensate = f.compensate;
  status = f.status;
  forget = f.forget;
  after = f.after;
  together = f.together;
  known = refl;
  completed = f.completed;
  compensated = f.compensated;
  forgotten = f.forgotten;
  told = f.told;
}

member_first : (stamp last : ℕ) (m : Member) → IsMember One stamp last m → IsMember Two stamp last m
member_first stamp last (Nested n) f = f
member_first stamp last (Participant p) f = participant_first p f
member_first stamp last Left f = f

members_first : (stamp last : ℕ) (ms : List Member) → Along (IsMember One stamp) next_nested last ms → Along (IsMember Two stamp) next_nested last ms
members_first stamp last [] f = f
members_first stamp last (m ∷ ms) f = (member_first stamp last m f.0, members_first stamp (next_nested last m) ms f.1)

pub record_first : (front : List ℕ) (kept : Record) → IsRecordUnderAs One front kept → IsRecordUnder front kept
record_first front r f = record {
  home = f.home;
  small = f.small;
  num = f.num;
  wide = f.wide;
  parent = f.parent;
  deadline = f.deadline;
  nodes = f.nodes;
  stamps = f.stamps;
  wide_stamps = f.wide_stamps;
  count = f.count;
  members = members_first (slice_index r.stamps (r.home - 1)) r.num r.members f.members;
}
