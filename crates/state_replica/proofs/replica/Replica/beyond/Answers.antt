use Rattle.std.proofs.Common.{◌≡◌, ◌<◌, ◌≤◌, ◌↔◌, arith, length, subst}
use Rattle.state_stamps.specs.Entries.{In, id_of}
use Rattle.state_stamps.specs.Indexes.{stamp_at}
use Rattle.state_replica.specs.Replicas.{ReplicaState, stamps_of, view_of}
use Rattle.state_replica.proofs.replica.Replica.beyond.Goals as goal

pub returns : goal.returns
returns c e =
    let within : c.args.origin ≤ length c.self.inside.index.origins = omega (arith, c.is_a_node.ensures, c.self.invariant.origins) in
    let inside = view_of (record { front = c.self.inside.front; purges = c.self.inside.purges; homes = c.self.inside.homes.items; index = c.self.inside.index }) in
    subst (λ (k : ReplicaState). In e c.beyond.result.now ↔ ((c.args.count < e.stamp) × (stamp_at (stamps_of (view_of k) (id_of e)) c.args.origin ≡ e.stamp))) c.self.view_is
    (c.beyond.ensures.changed (stamps_of inside) c.self.invariant.indexed within e)
