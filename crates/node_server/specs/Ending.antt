-- Which refusals end a run, how a node goes on after it, and with which status the program ends.
use Rattle.std.specs.Prelude.{ℕ, Bool, true, false, Option, None, Some, Result, Ok, Err}
use Rattle.state_facts.specs.declared.refusal.Refusal.{Refusal}
use Rattle.state_facts.specs.declared.refusal.Refusal.TheVariants as refusal
use Rattle.node_threads.specs.declared.shutdown.End.{End}
use Rattle.node_threads.specs.declared.shutdown.End.TheVariants.{Failed, Input}
use Rattle.node_sockets.specs.declared.signal.StopReason.{StopReason}
use Rattle.node_sockets.specs.declared.signal.StopReason.TheVariants.{Full, JournalFailed, Program, RunFull, Starved, Stopped, TrailLost}
use Rattle.node_server.specs.declared.program.Trouble.{Trouble}

-- why a run is over in which a call met this refusal: one of E18 to E21
abbrev pub reason_of : Refusal → StopReason
reason_of refusal.JournalFailed = JournalFailed
reason_of refusal.Stopped = Stopped
reason_of (refusal.TrailLost number) = TrailLost number
reason_of _ = RunFull

-- the refusal that a call met, if a run ended because of one
abbrev pub met : StopReason → Option Refusal
met JournalFailed = Some refusal.JournalFailed
met Stopped = Some refusal.Stopped
met RunFull = Some refusal.RunFull
met (TrailLost number) = Some (refusal.TrailLost number)
met Program = None
met Full = None
met Starved = None

-- whether the next run uses the same book: nothing was wrong with it
abbrev pub is_sound : StopReason → Bool
is_sound Full = true
is_sound RunFull = true
is_sound (TrailLost number) = true
is_sound Starved = true
is_sound Stopped = false
is_sound JournalFailed = false
is_sound Program = false

abbrev pub goes_on : Option StopReason → Bool
goes_on None = true
goes_on (Some reason) = is_sound reason

-- the exit status: 0 if the input ended, and 1 if a node couldn't begin or go on
abbrev pub status_of : Result End Trouble → ℕ
status_of (Ok Input) = 0
status_of (Ok Failed) = 1
status_of (Err trouble) = 1
