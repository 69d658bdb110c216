-- Notices to a participant, which ask for no outcome: that it may forget, and that its LRA has
-- ended
use Rattle.std.specs.Prelude.{ℕ}
use Rattle.state_ids.specs.Ids.{Id}
use Rattle.state_forest.specs.declared.record.Member.{Member}
use Rattle.state_facts.specs.declared.command.Command.{Command}
use Rattle.state_facts.specs.declared.command.Command.TheVariants.{Forgot, Told}
use Rattle.state_facts.specs.declared.command.CommandReply.{CommandReply}
use Rattle.state_facts.specs.declared.command.CommandReply.TheVariants.{Forgotten, Told as ToldReply}
use Rattle.theory_history.specs.Growth.{forgetting, hearing}
use Rattle.state_replica.specs.declared.commands.notices.Notice.{Notice}
use Rattle.state_replica.specs.declared.commands.notices.Notice.TheVariants.{ToForget, OfTheEnd}

-- the command that records a notice
abbrev pub command_for : Notice → Id → ℕ → Command
command_for ToForget l m = Forgot l m
command_for OfTheEnd l m = Told l m

-- the reply to that command
abbrev pub reply_to : Notice → CommandReply
reply_to ToForget = Forgotten
reply_to OfTheEnd = ToldReply

-- the member with the mark that it was told
abbrev pub noted : Notice → Member → Member
noted ToForget = forgetting
noted OfTheEnd = hearing
