-- The effects of a call that the other threads go on with.
use Rattle.std.specs.Prelude.{◌&&◌, Bool, true, false, Option, None, Some, if◌then◌else◌, not}
use Rattle.state_ids.specs.Ids.{Id}
use Rattle.state_ids.specs.declared.outcome.Act.{Act}
use Rattle.state_ids.specs.declared.outcome.Act.TheVariants as act
use Rattle.state_facts.specs.declared.command.Command.{Command}
use Rattle.state_facts.specs.declared.command.Command.TheVariants as command
use Rattle.state_facts.specs.declared.refusal.Refusal.{Refusal}
use Rattle.state_facts.specs.declared.refusal.Refusal.TheVariants as refusal
use Rattle.state_facts.specs.declared.command.CommandReply.{CommandReply}
use Rattle.state_facts.specs.declared.command.CommandReply.TheVariants as reply
use Rattle.state_book.specs.declared.calls.Call.{Call}
use Rattle.state_book.specs.declared.calls.Call.TheVariants as call
use Rattle.state_book.specs.declared.calls.Reply.{Reply}
use Rattle.state_book.specs.declared.calls.Reply.TheVariants.{Command as OfCommand, Expired, Took}
use Rattle.node_schedule.specs.declared.slip.Called.{Called}
use Rattle.node_agenda.specs.declared.effects.Became.{Became}
use Rattle.node_agenda.specs.declared.effects.Became.TheVariants.{Begun, Ended, Full, Nothing, Removed}
use Rattle.node_agenda.specs.declared.effects.NewlyDue.{NewlyDue}
use Rattle.node_agenda.specs.declared.effects.NewlyDue.TheVariants.{Nobody, OfCompletion, Others}
use Rattle.node_agenda.specs.declared.effects.Effects.{Effects}

-- whether a command was recorded: then a fact was stored
abbrev pub is_entered : CommandReply → Bool
is_entered reply.Known = false
is_entered (reply.Refused refusal) = false
is_entered _ = true

abbrev pub is_stored : Reply → Bool
is_stored (OfCommand done) = is_entered done
is_stored Took = true
is_stored (Expired id) = true
is_stored _ = false

abbrev pub is_taken : Reply → Bool
is_taken Took = true
is_taken _ = false

-- whether a fact of the node's own was stored
abbrev pub is_own : Reply → Bool
is_own reply = is_stored reply && not (is_taken reply)

-- whether other participants may be due: a decision, a report or a forgetting was recorded, a frame
-- was taken, or an LRA expired; or a listener is no longer due, because it was notified
abbrev pub news_by : (completes : Bool) → CommandReply → NewlyDue
news_by completes (reply.Decided id status) = Others
news_by completes reply.Forgotten = Others
news_by completes reply.Told = OfCompletion
news_by completes reply.Reported = if completes then OfCompletion else Others
news_by completes _ = Nobody

abbrev pub news_of : (completes : Bool) → Reply → NewlyDue
news_of completes Took = Others
news_of completes (Expired id) = Others
news_of completes (OfCommand done) = news_by completes done
news_of completes _ = Nobody

-- what may have changed of an LRA
abbrev pub became_where : Refusal → Became
became_where refusal.LrasFull = Full
became_where _ = Nothing

abbrev pub became_by : CommandReply → Became
became_by (reply.Began id status) = Begun
became_by (reply.Refused refusal) = became_where refusal
became_by reply.Purged = Removed
became_by (reply.Decided id status) = Ended
became_by reply.Reported = Ended
became_by _ = Nothing

abbrev pub became_of : Reply → Became
became_of Took = Ended
became_of (Expired id) = Ended
became_of (OfCommand done) = became_by done
became_of _ = Nothing

-- whether a call may store a fact of the node's own
abbrev pub enters : Call → Bool
enters (call.Command it) = true
enters call.Expire = true
enters (call.Sweep root seen) = true
enters _ = false

-- whether it reports a completion
abbrev pub is_complete : Act → Bool
is_complete act.Complete = true
is_complete act.Compensate = false

abbrev pub reports_completion : Command → Bool
reports_completion (command.Report id member of outcome) = is_complete of
reports_completion _ = false

abbrev pub is_completion : Call → Bool
is_completion (call.Command it) = reports_completion it
is_completion _ = false

-- the LRA of which a call says that a participant was notified as it was to be
abbrev pub told_by : Command → Option Id
told_by (command.Forgot id member) = Some id
told_by (command.Told id member) = Some id
told_by _ = None

abbrev pub freed_by : Call → Option Id
freed_by (call.Command it) = told_by it
freed_by _ = None

-- the participant whose outcome a call reports: that it did what it was asked for, or was notified
-- of the end
abbrev pub said_by : Command → Option Called
said_by (command.Report id member of outcome) = Some (record { id = id; member = member; of_end = false })
said_by (command.Forgot id member) = Some (record { id = id; member = member; of_end = false })
said_by (command.Told id member) = Some (record { id = id; member = member; of_end = true })
said_by _ = None

abbrev pub heard_by : Call → Option Called
heard_by (call.Command it) = said_by it
heard_by _ = None

-- that counts if it was recorded
abbrev pub is_entered_so : CommandReply → Bool
is_entered_so reply.Reported = true
is_entered_so reply.Forgotten = true
is_entered_so reply.Told = true
is_entered_so _ = false

abbrev pub is_said : Reply → Bool
is_said (OfCommand done) = is_entered_so done
is_said _ = false

abbrev pub heard_if : Option Called → Reply → Option Called
heard_if heard reply = if is_said reply then heard else None

-- the effects of a call, given whether it reported a completion and, if it named one, the LRA of
-- which a participant was notified and the participant whose outcome it reported
abbrev pub noted_by : (completes : Bool) (freed : Option Id) (heard : Option Called) → Reply → Effects
noted_by completes freed heard reply = record { news = news_of completes reply; became = became_of reply; freed = freed; heard = heard_if heard reply; took = is_taken reply }

-- the effects of a call that has none
abbrev pub nothing : Effects
nothing = record { news = Nobody; became = Nothing; freed = None; heard = None; took = false }
