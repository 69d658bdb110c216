-- The duty that is made of each participant for which something is due.
use Rattle.std.specs.Prelude.{◌&&◌, ℕ, Bool, Option, Some, List, [], if◌then◌else◌, is_some}
use Rattle.std.specs.Option.{option_map_or}
use Rattle.state_ids.specs.Ids.{Id}
use Rattle.state_ids.specs.declared.outcome.Act.{Act}
use Rattle.state_ids.specs.declared.outcome.Act.TheVariants.{Complete as CompleteAct, Compensate as CompensateAct}
use Rattle.state_facts.specs.declared.fact.Fact.{Fact}
use Rattle.state_facts.specs.Duties.{is_after_duty, is_compensation_due, is_forget_duty}
use Rattle.state_facts.specs.Sets.{parent_of, want}
use Rattle.state_forest.specs.declared.duties.Due.{Due}
use Rattle.state_forest.specs.declared.record.Participant.{Participant as ParticipantRecord}
use Rattle.state_forest.specs.Dues.{is_complete_duty}
use Rattle.state_forest.specs.Participants.{heard_by}
use Rattle.wire_callbacks.specs.declared.answer.Kind.{Kind}
use Rattle.wire_callbacks.specs.declared.answer.Kind.TheVariants.{Complete, Compensate, Status, Forget, After}
use Rattle.wire_callbacks.specs.declared.duty.Duty.{Duty}
use Rattle.wire_callbacks.specs.declared.duty.Purpose.{Purpose}
use Rattle.wire_callbacks.specs.declared.duty.Purpose.TheVariants.{Call, Release, Tell}
use Rattle.wire_callbacks.specs.CallDuties.{act_wanted, asks_status, is_busy, link_given, shown_for}

-- what must be due of a participant
abbrev pub due_by : Purpose → List Fact → Id → ℕ → Bool
due_by (Call CompleteAct) = is_complete_duty
due_by (Call CompensateAct) = is_compensation_due
due_by Release = is_forget_duty
due_by Tell = is_after_duty

abbrev pub kind_of_act : Act → Kind
kind_of_act CompleteAct = Complete
kind_of_act CompensateAct = Compensate

-- the kind of the next call for an act, by the participant's record
abbrev pub kind_by : ParticipantRecord → Act → Kind
kind_by p act = if is_busy (heard_by p act) && is_some p.links.status then Status else kind_of_act act

abbrev pub kind_in : Purpose → ParticipantRecord → Kind
kind_in (Call act) p = kind_by p act
kind_in Release p = Forget
kind_in Tell p = After

-- the same by the set
abbrev pub kind_from : List Fact → Purpose → Due → Kind
kind_from S (Call act) d = if asks_status S d.lra d.member act then Status else kind_of_act act
kind_from S Release d = Forget
kind_from S Tell d = After

abbrev pub act_from : List Fact → Purpose → Due → Option Act
act_from S (Call act) d = Some act
act_from S Release d = act_wanted (want S d.lra)
act_from S Tell d = act_wanted (want S d.lra)

-- the duty that is made of it; any act and link if no act is wanted or no link was given
abbrev pub duty_from : List Fact → Purpose → Due → Duty
duty_from S errand d =
    record {
      kind = kind_from S errand d;
      act = option_map_or (λ act. act) (act_from S errand d) CompleteAct;
      id = d.lra;
      member = d.member;
      link = option_map_or (λ link. link) (link_given S (kind_from S errand d) d.lra d.member) [];
      parent = parent_of S d.lra;
      shows = shown_for S (kind_from S errand d) d.lra;
    }
