-- what an LRA wants, by its own decision and by what the LRA above it wants
use Rattle.std.specs.Prelude.{Option, Some, None}
use Rattle.state_ids.specs.declared.outcome.Verdict.{Verdict}
use Rattle.state_ids.specs.declared.outcome.Verdict.TheVariants.{Close, Cancel}

-- to be cancelled takes precedence over to be closed
abbrev pub over : Option Verdict → Option Verdict → Option Verdict
over None b = b
over (Some Cancel) b = Some Cancel
over (Some Close) None = Some Close
over (Some Close) (Some b) = Some b
