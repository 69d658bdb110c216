-- What participants are called for now, given the set of facts that a node holds.
use Rattle.std.specs.Prelude.{◌≡◌, ◌==◌, ◌&&◌, ◌||◌, ℕ, Bool, true, false, Option, Some, None, List, if◌then◌else◌, is_some, nat_lt}
use mathlib.Core.Bool.{not}
use Rattle.std.specs.Option.{option_map_or}
use Rattle.state_ids.specs.Ids.{Id}
use Rattle.state_ids.specs.declared.outcome.Act.{Act}
use Rattle.state_ids.specs.declared.outcome.Act.TheVariants.{Complete as CompleteAct, Compensate as CompensateAct}
use Rattle.state_ids.specs.declared.outcome.Outcome.{Outcome}
use Rattle.state_ids.specs.declared.outcome.Outcome.TheVariants.{Busy, Done, Failed}
use Rattle.state_ids.specs.declared.outcome.Verdict.{Verdict}
use Rattle.state_ids.specs.declared.outcome.Verdict.TheVariants.{Close, Cancel}
use Rattle.state_ids.specs.declared.status.LraStatus.{LraStatus}
use Rattle.state_facts.specs.declared.fact.Fact.{Fact}
use Rattle.state_facts.specs.Links.{Links}
use Rattle.state_facts.specs.Duties.{is_after_duty, is_compensation_due, is_forget_duty}
use Rattle.state_facts.specs.Sets.{heard, is_held, links_of, parent_of, shows_now, want}
use Rattle.state_forest.specs.declared.duties.Due.{Due}
use Rattle.state_forest.specs.Dues.{is_before, is_complete_duty, is_topmost_before}
use Rattle.wire_callbacks.specs.declared.answer.Kind.{Kind}
use Rattle.wire_callbacks.specs.declared.answer.Kind.TheVariants.{Complete, Compensate, Status, Forget, After}
use Rattle.wire_callbacks.specs.declared.duty.Duty.{Duty}

abbrev pub is_busy : Option Outcome → Bool
is_busy None = false
is_busy (Some Busy) = true
is_busy (Some Done) = false
is_busy (Some Failed) = false

-- the participant said that it is busy with the act, and gave a link to ask for its status: then
-- the status is asked for, and the call is not repeated
abbrev pub asks_status : List Fact → Id → ℕ → Act → Bool
asks_status S l m act = is_busy (heard S l m act) && option_map_or (λ links. is_some links.status) (links_of S l m) false

-- the act that is wanted
abbrev pub act_wanted : Option Verdict → Option Act
act_wanted (Some Close) = Some CompleteAct
act_wanted (Some Cancel) = Some CompensateAct
act_wanted None = None

-- the LRA's want demands this act
abbrev pub is_act_wanted : Option Verdict → Act → Bool
is_act_wanted (Some Close) CompleteAct = true
is_act_wanted (Some Cancel) CompensateAct = true
is_act_wanted (Some Close) CompensateAct = false
is_act_wanted (Some Cancel) CompleteAct = false
is_act_wanted None act = false

-- whether participant m of l is to be called in this way for this act. If it is to forget or to be
-- notified of the end, the act is the one that was wanted
abbrev pub is_owed : List Fact → Kind → Act → Id → ℕ → Bool
is_owed S Complete CompleteAct l m = is_complete_duty S l m && not (asks_status S l m CompleteAct)
is_owed S Status CompleteAct l m = is_complete_duty S l m && asks_status S l m CompleteAct
is_owed S Compensate CompensateAct l m = is_compensation_due S l m && not (asks_status S l m CompensateAct)
is_owed S Status CompensateAct l m = is_compensation_due S l m && asks_status S l m CompensateAct
is_owed S Forget act l m = is_forget_duty S l m && is_act_wanted (want S l) act
is_owed S After act l m = is_after_duty S l m && is_act_wanted (want S l) act
is_owed S Complete CompensateAct l m = false
is_owed S Compensate CompleteAct l m = false

-- the link for calls of a kind
abbrev pub link_for : Kind → Links → Option (List ℕ)
link_for Complete links = links.complete
link_for Compensate links = links.compensate
link_for Status links = links.status
link_for Forget links = links.forget
link_for After links = links.after

-- the link that a participant gave
abbrev pub link_given : List Fact → Kind → Id → ℕ → Option (List ℕ)
link_given S kind l m = option_map_or (link_for kind) (links_of S l m) None

-- what a call says of the LRA: what it shows, if the participant is notified that it has ended
abbrev pub shown_for : List Fact → Kind → Id → Option LraStatus
shown_for S After l = Some (shows_now S l)
shown_for S Complete l = None
shown_for S Compensate l = None
shown_for S Status l = None
shown_for S Forget l = None

-- a participant of an LRA of the home is to be called in this way now, at the link that it gave for
-- this kind
pub record IsDuty (home : ℕ) (S : List Fact) (d : Duty) : Type 0 where
  pub own : d.id.home ≡ home
  pub held : is_held S d.id ≡ true
  pub owed : is_owed S d.kind d.act d.id d.member ≡ true
  pub called : link_given S d.kind d.id d.member ≡ Some d.link
  pub nested : d.parent ≡ parent_of S d.id
  pub shown : d.shows ≡ shown_for S d.kind d.id

-- The order: completions, then compensations, then forgets, then notifications of the end

abbrev pub stage : Kind → Act → ℕ
stage Complete act = 0
stage Compensate act = 1
stage Status CompleteAct = 0
stage Status CompensateAct = 1
stage Forget act = 2
stage After act = 3

abbrev pub due_of : Duty → Due
due_of d = record { lra = d.id; member = d.member }

-- compensations are ordered by the number of the topmost cancelled LRA, the others by the LRA's
-- number and then the member number
abbrev pub is_before_at : List Fact → ℕ → Due → Due → Bool
is_before_at S n a b = if n == 1 then is_topmost_before S a b else is_before a b

abbrev pub comes_first : List Fact → Duty → Duty → Bool
comes_first S a b =
    nat_lt (stage a.kind a.act) (stage b.kind b.act)
    || ((stage a.kind a.act == stage b.kind b.act) && is_before_at S (stage a.kind a.act) (due_of a) (due_of b))
