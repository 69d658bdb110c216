use Rattle.std.proofs.Common.{drop}
use Rattle.node_schedule.specs.Calling.{Calling}
use Rattle.node_agenda.specs.Since.{PausesEach}
use Rattle.node_agenda.proofs.heard_since.pause_each.Given as goal

-- if the participants that are left pause from here on, all have paused
abbrev pub invariant-loop-who : goal.invariant-loop-who
invariant-loop-who l = (new : Calling) → PausesEach l.now (drop l.who-index l.busy) l.calls new → PausesEach l.now l.busy l.fn.calls new
