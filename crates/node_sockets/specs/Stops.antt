-- Why a run is over.
use Rattle.std.specs.Prelude.{ℕ, Option, None, Some, if◌then◌else◌, nat_lt}
use Rattle.node_sockets.specs.declared.signal.StopReason.{StopReason}
use Rattle.node_sockets.specs.declared.signal.StopReason.TheVariants.{Full, JournalFailed, Program, RunFull, Starved, Stopped, TrailLost}

-- how much must be done because of a cause before the node goes on
abbrev pub weight : StopReason → ℕ
weight Full = 0
weight RunFull = 0
weight (TrailLost number) = 0
weight Stopped = 1
weight JournalFailed = 2
weight Starved = 3
weight Program = 4

-- Of several causes the weightiest stands, and of two of equal weight the first. Otherwise an E18
-- after an early end would leave a stopped book to the next run.
abbrev pub weightier : Option StopReason → StopReason → StopReason
weightier None why = why
weightier (Some was) why = if nat_lt (weight was) (weight why) then why else was
