use Rattle.std.proofs.Common.{ap, arith, length}
use Rattle.state_replica.specs.Replicas.{ReplicaState}
use Rattle.state_replica.proofs.replica.Replica.release.Goals as goal

pub release_at-requires : goal.release_at-requires
release_at-requires c =
    let homes = ap (λ (k : ReplicaState). length k.homes) c.self.view_is in
    omega (arith, c.loop-place-test.true, c.len-place-end.ensures, c.self.inside.homes.ok, c.loop-place.invariant.homes, homes)
