use Rattle.std.proofs.Common.{◌≡◌, ◌∙◌, ◌-◌, ◌≤◌, ◌<◌, ℕ, Some, ap, sym, arith, length, slice_get}
use Rattle.script_world.specs.Machines.{Machine}
use Rattle.script_world.proofs.OneReplicaChanged.{get_at}
use Rattle.script_world.proofs.world.World.replica.Goals as goal

pub returns-clause-view : goal.returns-clause-view
returns-clause-view c s w =
    let place : c.from-place.result - 1 ≡ c.args.node - 1 = ap (λ (n : ℕ). n - 1) (c.from-place.ensures ∙ c.number.ensures.value) in
    let some : 1 ≤ c.args.node = omega (arith, c.number.ensures.range, c.number.ensures.value) in
    let count : length c.self.inside.replicas.items ≡ length c.args.self.now.replicas = ap (λ (m : Machine). length m.replicas) c.self.view_is in
    let there : c.from-place.result - 1 < length c.self.inside.replicas.items = omega (arith, place, some, count, c.requires) in
    let at : slice_get c.self.inside.replicas.items (c.args.node - 1) ≡ Some c.index.result.now = ap (slice_get c.self.inside.replicas.items) (sym place) ∙ get_at c.self.inside.replicas.items (c.from-place.result - 1) c.index.result.now there c.index.ensures in
    w.views c.args.node c.index.result.now some (ap (λ (m : Machine). slice_get m.replicas (c.args.node - 1)) (sym c.self.view_is) ∙ at)
