use Rattle.std.proofs.Common.{ap, arith}
use Rattle.script_world.specs.Machines.{bytes_of}
use Rattle.script_world.proofs.Starting.{empty_machine, start_world}
use Rattle.script_world.proofs.world.World.new.Goals as goal

pub invariant_of-result : goal.invariant_of-result
invariant_of-result c = empty_machine c.args.nodes (record { replicas = c.in-Ok.replicas.items; sent = bytes_of c.new.result.items }) c.in-Ok.ensures

pub returns-in-Ok-clause-start : goal.returns-in-Ok-clause-start
returns-in-Ok-clause-start c =
    start_world c.args.nodes (record { replicas = c.in-Ok.replicas.items; sent = bytes_of c.new.result.items }) (omega (arith, c.if-nodes-lt1.false)) c.in-Ok.ensures (ap bytes_of c.new.ensures.items)
