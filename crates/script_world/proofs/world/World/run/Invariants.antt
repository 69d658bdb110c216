use Rattle.std.specs.Prelude.{drop}
use Rattle.script_world.specs.Machines.{IsWorldOf}
use Rattle.script_world.specs.Worlds.{State}
use Rattle.script_world.proofs.Happening.{IsRunning}
use Rattle.script_world.proofs.world.World.run.Given as goal

-- the events that were taken have happened, one after another
abbrev pub invariant-loop-event : goal.invariant-loop-event
invariant-loop-event l = (s : State) → IsWorldOf s l.fn.self → IsRunning s l.events (drop l.event-index l.events) l.replies.items l.self
