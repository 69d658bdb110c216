use Rattle.std.proofs.Common.{List}
use Rattle.node_agenda.specs.declared.task.Task.{Task}
use Rattle.node_server.specs.Entering.{DoesEach}
use Rattle.node_server.proofs.run.apply_loop.enter_all.Given as goal

-- the clerk made the calls of the tasks so far
abbrev pub invariant-loop : goal.invariant-loop
invariant-loop g l = (tasks : List Task) × DoesEach g.C.Clerk l.fn.clerk tasks l.clerk
