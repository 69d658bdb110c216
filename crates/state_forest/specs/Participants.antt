-- Participants, by the records of one home.
use Rattle.std.specs.Prelude.{ℕ, Bool, List, Option, Some, None, Result, Ok, Err, if◌then◌else◌}
use Rattle.std.specs.Option.{option_map_or}
use Rattle.state_ids.specs.Ids.{Id}
use Rattle.state_ids.specs.declared.outcome.Act.{Act}
use Rattle.state_ids.specs.declared.outcome.Act.TheVariants.{Complete, Compensate}
use Rattle.state_ids.specs.declared.outcome.Outcome.{Outcome}
use Rattle.state_facts.specs.declared.fact.Fact.{Fact}
use Rattle.state_facts.specs.Links.{Links}
use Rattle.state_facts.specs.declared.refusal.Refusal.{Refusal}
use Rattle.state_facts.specs.declared.refusal.Refusal.TheVariants.{NotHeld, UnknownMember}
use Rattle.state_facts.specs.Duties.{has_forgot, has_told}
use Rattle.state_facts.specs.Sets.{has_left, heard, is_held, links_of, parent_of}
use Rattle.state_forest.specs.declared.record.Participant.{Participant as ParticipantRecord}
use Rattle.state_forest.specs.declared.record.Member.{Member}
use Rattle.state_forest.specs.declared.record.Member.TheVariants.{Nested, Participant, Left}

-- the participant, if the member is one
abbrev pub participant_at : Option Member → Option ParticipantRecord
participant_at (Some (Participant p)) = Some p
participant_at (Some (Nested num)) = None
participant_at (Some Left) = None
participant_at None = None

-- the greatest outcome that was heard of this act of the participant
abbrev pub heard_by : ParticipantRecord → Act → Option Outcome
heard_by p Complete = p.completed
heard_by p Compensate = p.compensated

-- the answer if the LRA is held and has such a participant, otherwise a refusal
abbrev pub answered_of : {X : Type 0} → Bool → Bool → X → Result X Refusal
answered_of held known x = if held then (if known then Ok x else Err UnknownMember) else Err NotHeld

-- what the set says of a participant that joined with these links
abbrev pub joined_as : List Fact → Id → ℕ → Links → ParticipantRecord
joined_as S l m links =
    record {
      links = links;
      completed = heard S l m Complete;
      compensated = heard S l m Compensate;
      forgotten = has_forgot S l m;
      told = has_told S l m;
    }

-- what the set says of the participant m of l; there is nothing if l is not held, no participant
-- joined as m, or it left
abbrev pub participant_of : List Fact → Id → ℕ → Option ParticipantRecord
participant_of S l m =
    if is_held S l then (if has_left S l m then None else option_map_or (λ links. Some (joined_as S l m links)) (links_of S l m) None) else None

-- the parent of an LRA, if the LRA is held
abbrev pub parent_held : List Fact → Id → Option Id
parent_held S l = if is_held S l then parent_of S l else None
