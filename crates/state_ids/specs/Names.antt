-- The names of statuses in MicroProfile LRA 2.0, and the words for acts, outcomes and verdicts.
use Rattle.std.specs.Prelude.{ℕ, List, codes}
use Rattle.state_ids.specs.declared.status.LraStatus.{LraStatus}
use Rattle.state_ids.specs.declared.status.LraStatus.TheVariants as lra
use Rattle.state_ids.specs.declared.status.MemberStatus.{MemberStatus}
use Rattle.state_ids.specs.declared.status.MemberStatus.TheVariants as member
use Rattle.state_ids.specs.declared.outcome.Act.{Act}
use Rattle.state_ids.specs.declared.outcome.Act.TheVariants.{Complete, Compensate}
use Rattle.state_ids.specs.declared.outcome.Outcome.{Outcome}
use Rattle.state_ids.specs.declared.outcome.Outcome.TheVariants.{Busy, Done, Failed}
use Rattle.state_ids.specs.declared.outcome.Verdict.{Verdict}
use Rattle.state_ids.specs.declared.outcome.Verdict.TheVariants.{Close, Cancel}

abbrev pub lra_name : LraStatus → List ℕ
lra_name lra.Active = codes "Active"
lra_name lra.Closing = codes "Closing"
lra_name lra.Closed = codes "Closed"
lra_name lra.FailedToClose = codes "FailedToClose"
lra_name lra.Cancelling = codes "Cancelling"
lra_name lra.Cancelled = codes "Cancelled"
lra_name lra.FailedToCancel = codes "FailedToCancel"

abbrev pub member_name : MemberStatus → List ℕ
member_name member.Active = codes "Active"
member_name member.Completing = codes "Completing"
member_name member.Completed = codes "Completed"
member_name member.FailedToComplete = codes "FailedToComplete"
member_name member.Compensating = codes "Compensating"
member_name member.Compensated = codes "Compensated"
member_name member.FailedToCompensate = codes "FailedToCompensate"

abbrev pub act_name : Act → List ℕ
act_name Complete = codes "complete"
act_name Compensate = codes "compensate"

abbrev pub outcome_name : Outcome → List ℕ
outcome_name Busy = codes "busy"
outcome_name Done = codes "done"
outcome_name Failed = codes "failed"

abbrev pub verdict_name : Verdict → List ℕ
verdict_name Close = codes "close"
verdict_name Cancel = codes "cancel"
