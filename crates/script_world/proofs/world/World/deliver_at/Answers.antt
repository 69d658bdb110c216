use Rattle.std.proofs.Common.{◌≡◌, ◌∙◌, ◌-◌, ◌≤◌, ◌<◌, ℕ, List, Some, ap, sym, subst, arith, length, slice_get, slice_set}
use Rattle.std.proofs.lemmas.Result.{IfOk-weaker, on_err_weaker}
use Rattle.state_replica.specs.Replicas.{view_of}
use Rattle.script_world.specs.Machines.{IsChanged, Machine, bytes_of}
use Rattle.script_world.proofs.OneReplicaChanged.{TakesSo, bytes_at, changed_at, delivered_at}
use Rattle.script_world.proofs.world.World.deliver_at.Goals as goal

pub returns-clause-taken : goal.returns-clause-taken
returns-clause-taken c =
    let place : c.from-place.result - 1 ≡ c.args.node - 1 = ap (λ (n : ℕ). n - 1) (c.from-place.ensures ∙ c.number.ensures.value) in
    let some : 1 ≤ c.args.node = omega (arith, c.number.ensures.range, c.number.ensures.value) in
    let count : length c.self.inside.replicas.items ≡ length c.args.self.now.replicas = ap (λ (m : Machine). length m.replicas) c.self.view_is in
    let there : c.from-place.result - 1 < length c.self.inside.replicas.items = omega (arith, place, some, count, c.requires.node) in
    let new : Machine = record { replicas = slice_set c.self.inside.replicas.items (c.from-place.result - 1) c.take_bytes.new.replica; sent = bytes_of c.self.inside.frames.items } in
    let within : c.args.frame < length (bytes_of c.self.inside.frames.items) = subst (λ (m : Machine). c.args.frame < length m.sent) (sym c.self.view_is) c.requires.frame in
    let spelt : slice_get (bytes_of c.self.inside.frames.items) c.args.frame ≡ Some c.deref.result.now = bytes_at c.self.inside.frames.items c.args.frame c.index.result.now within c.index.ensures ∙ ap (λ (b : List ℕ). Some b) (sym c.deref.ensures.value) in
    IfOk-weaker c.take_bytes.result _ _
    (λ reply taken.
    subst (λ (m : Machine). IsChanged m new c.args.node (TakesSo m c.args.frame c.args.kept reply)) c.self.view_is
    (delivered_at (record { replicas = c.self.inside.replicas.items; sent = bytes_of c.self.inside.frames.items }) (c.from-place.result - 1) c.args.node c.args.frame
    c.index_mut.result.now c.take_bytes.new.replica c.deref.result.now c.args.kept reply place there c.index_mut.ensures.value spelt taken))
    c.take_bytes.ensures.taken

pub returns-clause-err : goal.returns-clause-err
returns-clause-err c =
    let place : c.from-place.result - 1 ≡ c.args.node - 1 = ap (λ (n : ℕ). n - 1) (c.from-place.ensures ∙ c.number.ensures.value) in
    let some : 1 ≤ c.args.node = omega (arith, c.number.ensures.range, c.number.ensures.value) in
    let count : length c.self.inside.replicas.items ≡ length c.args.self.now.replicas = ap (λ (m : Machine). length m.replicas) c.self.view_is in
    let there : c.from-place.result - 1 < length c.self.inside.replicas.items = omega (arith, place, some, count, c.requires.node) in
    let new : Machine = record { replicas = slice_set c.self.inside.replicas.items (c.from-place.result - 1) c.take_bytes.new.replica; sent = bytes_of c.self.inside.frames.items } in
    on_err_weaker c.take_bytes.result
    (λ same.
    subst (λ (m : Machine). IsChanged m new c.args.node (λ was now. view_of now ≡ view_of was)) c.self.view_is
    (changed_at (record { replicas = c.self.inside.replicas.items; sent = bytes_of c.self.inside.frames.items }) (c.from-place.result - 1) c.args.node
    c.index_mut.result.now c.take_bytes.new.replica (λ was now. view_of now ≡ view_of was) place there c.index_mut.ensures.value same))
    c.take_bytes.ensures.err
