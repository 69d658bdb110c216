-- Whether two calls, and two replies, are the same.
use Rattle.std.specs.Prelude.{◌&&◌, ◌==◌, Bool, true, false, List}
use Rattle.std.specs.Bool.{beq}
use Rattle.std.specs.Cmp.Lexicographic.{pointwise}
use Rattle.std.specs.Option.{option_eq}
use Rattle.std.specs.Str.{bytes_eq}
use Rattle.state_ids.specs.Ids.{Id}
use Rattle.state_ids.specs.contracts.lra.LraIdPartialEq.TheImpl as of_ids
use Rattle.state_ids.specs.contracts.status.LraStatusPartialEq.TheImpl as of_statuses
use Rattle.state_ids.specs.contracts.status.MemberStatusPartialEq.TheImpl as of_member_statuses
use Rattle.state_facts.specs.contracts.refusal.RefusalPartialEq.TheImpl as of_refusals
use Rattle.state_facts.specs.contracts.command.CommandPartialEq.TheImpl as of_commands
use Rattle.state_facts.specs.contracts.command.CommandReplyPartialEq.TheImpl as of_command_replies
use Rattle.state_forest.specs.contracts.record.RecordPartialEq.TheImpl as of_records
use Rattle.state_replica.specs.Pages.{PageRows}
use Rattle.state_replica.specs.contracts.page.RowPartialEq.TheImpl as of_rows
use Rattle.wire_frames.specs.SameFrames.{same_frame}
use Rattle.wire_callbacks.specs.declared.duty.Duty.{Duty}
use Rattle.wire_callbacks.specs.contracts.duty.DutyPartialEq.TheImpl as of_duties
use Rattle.state_book.specs.declared.holdings.Holding.{Holding}
use Rattle.state_book.specs.contracts.holdings.SummaryPartialEq.TheImpl as of_summaries
use Rattle.state_book.specs.Holdings.{SurveyRows}
use Rattle.state_book.specs.declared.calls.Call.{Call}
use Rattle.state_book.specs.declared.calls.Call.TheVariants.{Command as Enter, Take, Pull, Status, Member, Page, Record as Show, Survey, Duties, Expire, Sweep}
use Rattle.state_book.specs.declared.calls.Reply.{Reply}
use Rattle.state_book.specs.declared.calls.Reply.TheVariants.{Command as Entered, Took, Gave, Shown, ShownMember, Listed, Held, Surveyed, Due, Expired, Quiet, Refused}

abbrev pub same_id : Id → Id → Bool
same_id = of_ids.ghosts.eq

abbrev pub same_call : Call → Call → Bool
same_call (Enter c) (Enter d) = of_commands.ghosts.eq c d
same_call (Take f) (Take g) = same_frame f g
same_call (Pull b) (Pull c) = bytes_eq b c
same_call (Status l) (Status k) = same_id l k
same_call (Member l m) (Member k n) = same_id l k && (m == n)
same_call (Page l) (Page k) = option_eq same_id l k
same_call (Show l) (Show k) = same_id l k
same_call (Survey l) (Survey k) = option_eq same_id l k
same_call Duties Duties = true
same_call Expire Expire = true
same_call (Sweep l s) (Sweep k t) = same_id l k && of_statuses.ghosts.eq s t
same_call _ _ = false

abbrev pub same_page : PageRows → PageRows → Bool
same_page a b = pointwise of_rows.ghosts.eq a.rows b.rows && beq a.more b.more

abbrev pub same_duties : List Duty → List Duty → Bool
same_duties = pointwise of_duties.ghosts.eq

abbrev pub same_holding : Holding → Holding → Bool
same_holding a b =
    same_id a.id b.id
    && (of_statuses.ghosts.eq a.status b.status
    && (of_records.ghosts.eq a.record b.record && (pointwise (option_eq of_member_statuses.ghosts.eq) a.members b.members && of_command_replies.ghosts.eq a.purge b.purge)))

abbrev pub same_survey : SurveyRows → SurveyRows → Bool
same_survey a b = pointwise of_summaries.ghosts.eq a.rows b.rows && beq a.more b.more

abbrev pub same_reply : Reply → Reply → Bool
same_reply (Entered r) (Entered s) = of_command_replies.ghosts.eq r s
same_reply Took Took = true
same_reply (Gave f) (Gave g) = same_frame f g
same_reply (Shown l s) (Shown k t) = same_id l k && of_statuses.ghosts.eq s t
same_reply (ShownMember l m s) (ShownMember k n t) = same_id l k && ((m == n) && of_member_statuses.ghosts.eq s t)
same_reply (Listed p) (Listed q) = same_page p q
same_reply (Held a) (Held b) = same_holding a b
same_reply (Surveyed a) (Surveyed b) = same_survey a b
same_reply (Due a) (Due b) = same_duties a b
same_reply (Expired l) (Expired k) = same_id l k
same_reply Quiet Quiet = true
same_reply (Refused r) (Refused s) = of_refusals.ghosts.eq r s
same_reply _ _ = false
