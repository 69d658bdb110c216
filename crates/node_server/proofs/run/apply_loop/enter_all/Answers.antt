use Rattle.std.proofs.Common.{◌∷◌}
use Rattle.node_server.proofs.run.apply_loop.enter_all.Goals as goal

pub loop-preserved-in-Err : goal.loop-preserved-in-Err
loop-preserved-in-Err g c = (c.next-task.result.0 ∷ c.loop.invariant.0, (c.loop.clerk, c.do_task.result, c.loop.invariant.1, c.do_task.ensures))

pub loop-preserved : goal.loop-preserved
loop-preserved g c = (c.next-task.result.0 ∷ c.loop.invariant.0, (c.loop.clerk, c.do_task.result, c.loop.invariant.1, c.do_task.ensures))
