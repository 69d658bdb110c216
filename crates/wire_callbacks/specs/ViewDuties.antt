-- What participants are called for now, given a view.
use Rattle.std.specs.Prelude.{◌++◌, ℕ, List, Option, Some, None, filter_map, if◌then◌else◌}
use Rattle.std.specs.Option.{option_map_or}
use Rattle.state_ids.specs.declared.outcome.Act.{Act}
use Rattle.state_ids.specs.declared.outcome.Act.TheVariants.{Complete as CompleteAct, Compensate as CompensateAct}
use Rattle.state_ids.specs.Ids.{Id}
use Rattle.state_ids.specs.declared.status.LraStatus.{LraStatus}
use Rattle.state_forest.specs.declared.duties.Due.{Due}
use Rattle.state_forest.specs.declared.record.Participant.{Participant as ParticipantRecord}
use Rattle.theory_history.specs.Readings.{by_view}
use Rattle.theory_history.specs.Views.{View}
use Rattle.state_replica.specs.ViewDues.{compensations_of, completions_of, forgets_of, hearings_of, parent_in, participant_in}
use Rattle.wire_callbacks.specs.declared.answer.Kind.{Kind}
use Rattle.wire_callbacks.specs.declared.answer.Kind.TheVariants.{Complete, Compensate, Status, Forget, After}
use Rattle.wire_callbacks.specs.declared.duty.Duty.{Duty}
use Rattle.wire_callbacks.specs.declared.duty.Purpose.{Purpose}
use Rattle.wire_callbacks.specs.declared.duty.Purpose.TheVariants.{Call, Release, Tell}
use Rattle.wire_callbacks.specs.CallDuties.{act_wanted, link_for}
use Rattle.wire_callbacks.specs.Errands.{kind_by, kind_in}

-- what a call says of the LRA: what it shows, if it is held and the participant is notified that it
-- has ended
abbrev pub shown_in : View → Kind → Id → Option LraStatus
shown_in view After l = if (by_view view).held l then Some ((by_view view).shows l) else None
shown_in view Complete l = None
shown_in view Compensate l = None
shown_in view Status l = None
shown_in view Forget l = None

-- the call of a participant for which something is due, at the link that it gave for calls of this
-- kind, if it gave one
abbrev pub call_at : View → Due → Kind → Act → ParticipantRecord → Option Duty
call_at view d kind act p =
    option_map_or (λ link. Some (record { kind = kind; act = act; id = d.lra; member = d.member; link = link; parent = parent_in view d.lra; shows = shown_in view kind d.lra })) (link_for kind p.links) None

-- the call to do an act, or to report its status if the participant is busy with it and gave a link
-- for that
abbrev pub call_for : View → Act → Due → Option Duty
call_for view act d = option_map_or (λ p. call_at view d (kind_by p act) act p) (participant_in view d.lra d.member) None

-- the call to forget the act that is wanted
abbrev pub forget_call : View → Due → Option Duty
forget_call view d =
    option_map_or (λ p. option_map_or (λ act. call_at view d Forget act p) (act_wanted ((by_view view).want d.lra)) None) (participant_in view d.lra d.member) None

-- the notification that the LRA has ended
abbrev pub after_call : View → Due → Option Duty
after_call view d =
    option_map_or (λ p. option_map_or (λ act. call_at view d After act p) (act_wanted ((by_view view).want d.lra)) None) (participant_in view d.lra d.member) None

-- the calls that are due at a home: to complete, then to compensate, then to forget, then to be
-- notified of the end
abbrev pub duties_of : View → ℕ → List Duty
duties_of view me =
    filter_map (call_for view CompleteAct) (completions_of view me)
    ++ (filter_map (call_for view CompensateAct) (compensations_of view me)
    ++ (filter_map (forget_call view) (forgets_of view me) ++ filter_map (after_call view) (hearings_of view me)))

-- The same by errands

abbrev pub act_by : View → Purpose → Due → Option Act
act_by view (Call act) d = Some act
act_by view Release d = act_wanted ((by_view view).want d.lra)
act_by view Tell d = act_wanted ((by_view view).want d.lra)

-- the call that is due for an errand
abbrev pub duty_by : View → Purpose → Due → Option Duty
duty_by view errand d =
    option_map_or (λ p. option_map_or (λ act. call_at view d (kind_in errand p) act p) (act_by view errand d) None) (participant_in view d.lra d.member) None
