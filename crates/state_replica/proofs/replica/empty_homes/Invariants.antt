use Rattle.state_replica.specs.Replicas.{AreEmptyHomes}
use Rattle.state_replica.proofs.replica.empty_homes.Given as goal

abbrev pub invariant-loop-place : goal.invariant-loop-place
invariant-loop-place l = AreEmptyHomes l.place l.homes.items
