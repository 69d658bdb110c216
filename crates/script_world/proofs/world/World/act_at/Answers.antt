use Rattle.std.proofs.Common.{◌≡◌, ◌∙◌, ◌-◌, ◌≤◌, ◌<◌, ℕ, List, Result, Ok, Err, ap, subst, arith, length, slice_set}
use Rattle.std.proofs.lemmas.Result.{IfOk-weaker, on_err_weaker}
use Rattle.std.specs.Prelude.{IfOk}
use Rattle.std.specs.declared.alloc.AllocError.{AllocError}
use Rattle.state_facts.specs.declared.fact.Fact.{Fact}
use Rattle.state_facts.specs.declared.command.CommandReply.{CommandReply}
use Rattle.theory_history.specs.Growth.{IsSettled}
use Rattle.theory_history.specs.Views.{StandsFor}
use Rattle.state_replica.specs.Replicas.{ReplicaState, view_of}
use Rattle.script_world.specs.Machines.{IsActed, IsChanged, Machine, bytes_of}
use Rattle.script_world.proofs.OneReplicaChanged.{changed_at}
use Rattle.script_world.proofs.WorldsStand.{ActsSo}
use Rattle.script_world.proofs.world.World.act_at.Goals as goal

-- the replica at the node's place is changed in this way
changed : (c : goal.After-self-1) (So : ReplicaState → ReplicaState → Type 0) → So c.index_mut.result.now c.act.new.replica
    → IsChanged c.args.self.now (record { replicas = slice_set c.self.inside.replicas.items (c.from-place.result - 1) c.act.new.replica; sent = bytes_of c.self.inside.frames.items }) c.args.node So
changed c So so =
    let place : c.from-place.result - 1 ≡ c.args.node - 1 = ap (λ (n : ℕ). n - 1) (c.from-place.ensures ∙ c.number.ensures.value) in
    let some : 1 ≤ c.args.node = omega (arith, c.number.ensures.range, c.number.ensures.value) in
    let count : length c.self.inside.replicas.items ≡ length c.args.self.now.replicas = ap (λ (m : Machine). length m.replicas) c.self.view_is in
    let there : c.from-place.result - 1 < length c.self.inside.replicas.items = omega (arith, place, some, count, c.requires) in
    let new : Machine = record { replicas = slice_set c.self.inside.replicas.items (c.from-place.result - 1) c.act.new.replica; sent = bytes_of c.self.inside.frames.items } in
    subst (λ (m : Machine). IsChanged m new c.args.node So) c.self.view_is
    (changed_at (record { replicas = c.self.inside.replicas.items; sent = bytes_of c.self.inside.frames.items }) (c.from-place.result - 1) c.args.node
    c.index_mut.result.now c.act.new.replica So place there c.index_mut.ensures.value so)

-- what holds for each settled set holds of the reply
acted_so : (c : goal.After-self-1) → IfOk c.act.result (λ reply. ActsSo c.args.node c.args.command reply c.index_mut.result.now c.act.new.replica)
acted_so c = by c.act.result c.act.ensures.acted
  where
    by : (r : Result CommandReply AllocError) → ((S : List Fact) → IsSettled S → StandsFor S (view_of c.index_mut.result.now) → IfOk r (λ reply. IsActed S (view_of c.index_mut.result.now) c.args.node c.args.command reply (view_of c.act.new.replica)))
        → IfOk r (λ reply. ActsSo c.args.node c.args.command reply c.index_mut.result.now c.act.new.replica)
    by (Ok reply) acted = acted
    by (Err e) acted = tt

pub returns-clause-acted : goal.returns-clause-acted
returns-clause-acted c = IfOk-weaker c.act.result _ _ (λ reply acted. changed c (ActsSo c.args.node c.args.command reply) acted) (acted_so c)

pub returns-clause-err : goal.returns-clause-err
returns-clause-err c = on_err_weaker c.act.result (λ same. changed c (λ was now. view_of now ≡ view_of was) same) c.act.ensures.err
