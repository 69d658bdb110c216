-- As what a call of the desk is counted, and by which number its refusal.
use Rattle.std.specs.Prelude.{ℕ, Option, None, Some}
use Rattle.state_ids.specs.declared.outcome.Verdict.{Verdict}
use Rattle.state_ids.specs.declared.outcome.Verdict.TheVariants as verdict
use Rattle.state_facts.specs.declared.command.Command.{Command}
use Rattle.state_facts.specs.declared.command.Command.TheVariants as command
use Rattle.state_facts.specs.declared.command.CommandReply.{CommandReply}
use Rattle.state_facts.specs.declared.command.CommandReply.TheVariants.{Refused}
use Rattle.state_facts.specs.declared.refusal.Refusal.{Refusal}
use Rattle.state_facts.specs.declared.refusal.Refusal.TheVariants as refusal
use Rattle.state_book.specs.declared.calls.Call.{Call}
use Rattle.state_book.specs.declared.calls.Call.TheVariants as call
use Rattle.state_book.specs.declared.calls.Reply.{Reply}
use Rattle.state_book.specs.declared.calls.Reply.TheVariants.{Command as OfCommand, Refused as WasRefused}
use Rattle.node_core.specs.declared.counts.CallKind.{CallKind}
use Rattle.node_core.specs.declared.counts.CallKind.TheVariants as kind

abbrev pub decision_kind : Verdict → CallKind
decision_kind verdict.Close = kind.Close
decision_kind verdict.Cancel = kind.Cancel

abbrev pub command_kind : Command → CallKind
command_kind (command.Begin parent deadline) = kind.Begin
command_kind (command.Join id links) = kind.Join
command_kind (command.Leave id member) = kind.Leave
command_kind (command.Decide id verdict) = decision_kind verdict
command_kind (command.Report id member of outcome) = kind.Report
command_kind (command.Forgot id member) = kind.Forgot
command_kind (command.Told id member) = kind.Told
command_kind (command.Purge root) = kind.Purge

-- a sweep counts as the purge that it asks for
abbrev pub call_kind : Call → CallKind
call_kind (call.Command it) = command_kind it
call_kind (call.Take delta) = kind.Take
call_kind (call.Pull body) = kind.Pull
call_kind (call.Status id) = kind.Status
call_kind (call.Member id member) = kind.Member
call_kind (call.Page beyond) = kind.Page
call_kind (call.Record id) = kind.Record
call_kind (call.Survey beyond) = kind.Survey
call_kind call.Duties = kind.Duties
call_kind call.Expire = kind.Expire
call_kind (call.Sweep root seen) = kind.Purge

-- the number of a refusal, 1 to 24: the one in its text, E1 to E24
abbrev pub number_of : Refusal → ℕ
number_of refusal.BadText = 1
number_of refusal.UnknownLra = 2
number_of refusal.NotHeld = 3
number_of (refusal.NotHome home) = 4
number_of refusal.UnknownMember = 5
number_of (refusal.NotActive status) = 6
number_of (refusal.NotDue status) = 7
number_of (refusal.NotEnded status) = 8
number_of refusal.NotRoot = 9
number_of (refusal.StillToForget id member) = 10
number_of refusal.MembersFull = 11
number_of refusal.DepthFull = 12
number_of refusal.LrasFull = 13
number_of refusal.NumbersSpent = 14
number_of (refusal.Gap node) = 15
number_of (refusal.BadFrame place) = 16
number_of refusal.NoMemory = 17
number_of refusal.JournalFailed = 18
number_of refusal.Stopped = 19
number_of refusal.RunFull = 20
number_of (refusal.TrailLost place) = 21
number_of (refusal.Strange node) = 22
number_of refusal.NeedsVersion2 = 23
number_of (refusal.StillToTell id member) = 24

abbrev pub refused_in : CommandReply → Option ℕ
refused_in (Refused refusal) = Some (number_of refusal)
refused_in _ = None

abbrev pub refused_by : Reply → Option ℕ
refused_by (OfCommand reply) = refused_in reply
refused_by (WasRefused refusal) = Some (number_of refusal)
refused_by _ = None
