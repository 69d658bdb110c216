-- The result of a purge by a sweep, given its reply.
use Rattle.state_facts.specs.declared.refusal.Refusal.{Refusal}
use Rattle.state_facts.specs.declared.refusal.Refusal.TheVariants as refusal
use Rattle.state_facts.specs.declared.command.CommandReply.{CommandReply}
use Rattle.state_facts.specs.declared.command.CommandReply.TheVariants as reply
use Rattle.state_book.specs.declared.calls.Reply.{Reply}
use Rattle.state_book.specs.declared.calls.Reply.TheVariants.{Command as OfCommand, Refused, Shown}
use Rattle.node_agenda.specs.declared.sweep.Purged.{Purged}
use Rattle.node_agenda.specs.declared.sweep.Purged.TheVariants.{Changed, Gone, Later, Missing, Nested, Waits}

-- if it is refused: the LRA isn't held, or is not a root; a participant below it is still to be
-- notified; or, for any other refusal, it is tried later
abbrev pub put_off_by : Refusal → Purged
put_off_by refusal.NotHeld = Missing
put_off_by refusal.NotRoot = Nested
put_off_by (refusal.StillToForget id member) = Waits id
put_off_by (refusal.StillToTell id member) = Waits id
put_off_by _ = Later

-- if its command was recorded, the LRA is gone
abbrev pub purged_in : CommandReply → Purged
purged_in (reply.Refused refusal) = put_off_by refusal
purged_in _ = Gone

-- if it shows something else than it did, nothing was recorded
abbrev pub purged_by : Reply → Purged
purged_by (Shown id status) = Changed
purged_by (Refused refusal) = put_off_by refusal
purged_by (OfCommand done) = purged_in done
purged_by _ = Later
