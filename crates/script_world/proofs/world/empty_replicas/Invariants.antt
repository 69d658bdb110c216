use Rattle.script_world.specs.Machines.{AreEmpty}
use Rattle.script_world.proofs.world.empty_replicas.Given as goal

abbrev pub invariant-loop : goal.invariant-loop
invariant-loop l = AreEmpty l.nodes l.counter l.replicas.items
