-- The command that records what was learned.
use Rattle.std.specs.Prelude.{ℕ, Option, Some, None}
use Rattle.state_ids.specs.Ids.{Id}
use Rattle.state_ids.specs.declared.outcome.Act.{Act}
use Rattle.state_facts.specs.declared.command.Command.{Command}
use Rattle.state_facts.specs.declared.command.Command.TheVariants.{Report, Forgot as ForgotAsked, Told as ToldAsked}
use Rattle.wire_callbacks.specs.declared.answer.Heard.{Heard}
use Rattle.wire_callbacks.specs.declared.answer.Heard.TheVariants.{Outcome, Forgot, Told, Again}

-- what is recorded of a participant after a call for an act: an outcome is reported of that act, or
-- the participant is recorded as forgotten or told; nothing is recorded if it is to be called again
abbrev pub command_heard : Id → ℕ → Act → Heard → Option Command
command_heard id m act (Outcome outcome) = Some (Report id m act outcome)
command_heard id m act Forgot = Some (ForgotAsked id m)
command_heard id m act Told = Some (ToldAsked id m)
command_heard id m act Again = None
