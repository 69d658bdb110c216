-- What the types of a delta say of its numbers and links, which are plain lists here.
use Rattle.std.specs.Prelude.{◌≡◌, ◌≤◌, ◌<◌, ◌^◌, true, length}
use Rattle.std.specs.List.{All}
use Rattle.state_ids.specs.declared.TheConstants.{MAX_NODES}
use Rattle.state_facts.specs.Links.{Links, are_links}
use Rattle.state_forest.specs.declared.record.Member.{Member}
use Rattle.state_forest.specs.declared.record.Member.TheVariants.{Nested, Participant, Left}
use Rattle.state_forest.specs.declared.record.Record.{Record}
use Rattle.wire_frames.specs.Frames.{Frame}
use Rattle.wire_frames.specs.Rules.{IsLink}

-- each given link is kept as it is, and together they are the links of a participant
pub record AreLinks (links : Links) : Type 0 where
  pub complete : IsLink links.complete
  pub compensate : IsLink links.compensate
  pub status : IsLink links.status
  pub forget : IsLink links.forget
  pub after : IsLink links.after
  pub together : are_links links ≡ true

abbrev pub HasLinks : Member → Type 0
HasLinks (Nested num) = Unit {0}
HasLinks (Participant p) = AreLinks p.links
HasLinks Left = Unit {0}

-- a deadline of 64 bits, and such links
pub record IsTypedRecord (r : Record) : Type 0 where
  pub deadline : r.deadline < 2 ^ 64
  pub links : All HasLinks r.members

-- 1 to 8 nodes
pub record IsTyped (frame : Frame) : Type 0 where
  pub some : 1 ≤ length frame.front
  pub few : length frame.front ≤ MAX_NODES
  pub records : All (All IsTypedRecord) frame.records
