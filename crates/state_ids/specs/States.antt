-- Orders on statuses, outcomes and verdicts, and which status is shown for what is wanted and
-- heard.
use Rattle.std.specs.Prelude.{ℕ, Bool, true, false, Option, Some, None, ◌==◌}
use Rattle.std.specs.Option.{option_map_or}
use Rattle.state_ids.specs.declared.status.LraStatus.{LraStatus}
use Rattle.state_ids.specs.declared.status.LraStatus.TheVariants.{Active, Closing, Closed, FailedToClose, Cancelling, Cancelled, FailedToCancel}
use Rattle.state_ids.specs.declared.status.MemberStatus.{MemberStatus}
use Rattle.state_ids.specs.declared.status.MemberStatus.TheVariants.{Active as MemberActive, Completing, Completed, FailedToComplete, Compensating, Compensated, FailedToCompensate}
use Rattle.state_ids.specs.declared.outcome.Outcome.{Outcome}
use Rattle.state_ids.specs.declared.outcome.Outcome.TheVariants.{Busy, Done, Failed}
use Rattle.state_ids.specs.declared.outcome.Verdict.{Verdict}
use Rattle.state_ids.specs.declared.outcome.Verdict.TheVariants.{Close, Cancel}
use Rattle.state_ids.specs.declared.outcome.Act.{Act}
use Rattle.state_ids.specs.declared.outcome.Act.TheVariants.{Complete, Compensate}

-- the order in which an LRA's statuses follow each other
abbrev pub rank : LraStatus → ℕ
rank Active = 0
rank Closing = 1
rank Closed = 2
rank FailedToClose = 3
rank Cancelling = 4
rank Cancelled = 5
rank FailedToCancel = 6

-- the rank of a status, where an LRA that is not held comes last
abbrev pub rank_of : Option LraStatus → ℕ
rank_of status = option_map_or rank status 7

-- the order of outcomes: none, Busy, Done, Failed (this project's profile)
abbrev pub level : Option Outcome → ℕ
level None = 0
level (Some Busy) = 1
level (Some Done) = 2
level (Some Failed) = 3

-- the greater of two outcomes
abbrev pub greater : Option Outcome → Option Outcome → Option Outcome
greater None b = b
greater (Some Busy) None = Some Busy
greater (Some Busy) (Some b) = Some b
greater (Some Done) (Some Failed) = Some Failed
greater (Some Done) _ = Some Done
greater (Some Failed) b = Some Failed

-- whether two verdicts are equal
abbrev pub same_verdict : Verdict → Verdict → Bool
same_verdict Close Close = true
same_verdict Cancel Cancel = true
same_verdict _ _ = false

-- whether two acts are equal
abbrev pub same_act : Act → Act → Bool
same_act Complete Complete = true
same_act Compensate Compensate = true
same_act _ _ = false

-- the status of a participant that is asked to complete, by the outcome that was heard
abbrev pub completing : Option Outcome → MemberStatus
completing (Some Done) = Completed
completing (Some Failed) = FailedToComplete
completing _ = Completing

-- the status of a participant that is asked to compensate, by the outcome that was heard
abbrev pub compensating : Option Outcome → MemberStatus
compensating (Some Done) = Compensated
compensating (Some Failed) = FailedToCompensate
compensating _ = Compensating

abbrev pub member_rank : MemberStatus → ℕ
member_rank MemberActive = 0
member_rank Completing = 1
member_rank Completed = 2
member_rank FailedToComplete = 3
member_rank Compensating = 4
member_rank Compensated = 5
member_rank FailedToCompensate = 6

-- whether two statuses of participants are equal
abbrev pub same_member_status : MemberStatus → MemberStatus → Bool
same_member_status a b = member_rank a == member_rank b

-- a participant's status is final if nothing is left for it to do
abbrev pub is_final : MemberStatus → Bool
is_final MemberActive = false
is_final Completing = false
is_final Compensating = false
is_final _ = true

-- the status of an LRA, by what it wants, whether it is ended, and whether a participant failed to
-- complete or to compensate
abbrev pub shown : Option Verdict → (ended incomplete uncompensated : Bool) → LraStatus
shown None ended incomplete uncompensated = Active
shown (Some Close) false incomplete uncompensated = Closing
shown (Some Close) true false uncompensated = Closed
shown (Some Close) true true uncompensated = FailedToClose
shown (Some Cancel) false incomplete uncompensated = Cancelling
shown (Some Cancel) true incomplete false = Cancelled
shown (Some Cancel) true incomplete true = FailedToCancel
