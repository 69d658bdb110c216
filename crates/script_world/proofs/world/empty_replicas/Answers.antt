use Rattle.script_world.proofs.Starting.{one_more_empty}
use Rattle.script_world.proofs.world.empty_replicas.Goals as goal

pub loop-preserved : goal.loop-preserved
loop-preserved c = one_more_empty c.args.nodes c.loop.counter c.loop.replicas.items c.push.new.self.items c.in-Ok.replica c.in_ok-push.ensures.items c.in-Ok.ensures.empty c.loop.invariant
