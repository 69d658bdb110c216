use Rattle.std.proofs.Common.{◌≡◌, inl, inr, ◌∙◌, ◌-◌, ◌≤◌, ◌<◌, ℕ, List, Some, ap, sym, subst, arith, length, slice_get}
use Rattle.std.proofs.lemmas.Result.{IfErr-weaker, IfOk-weaker}
use Rattle.state_ids.specs.Fronts.{IsBelow}
use Rattle.state_facts.specs.declared.refusal.Refusal.TheVariants.{Gap}
use Rattle.state_replica.specs.Replicas.{view_of}
use Rattle.script_world.specs.Machines.{IsWorldOf, Machine}
use Rattle.script_world.specs.Worlds.{IsViewOf, State, front_of}
use Rattle.script_world.proofs.Happening.{needs_none}
use Rattle.script_world.proofs.OneReplicaChanged.{get_at}
use Rattle.script_world.proofs.world.World.frame_since.Goals.{After-bytes_since}
use Rattle.script_world.proofs.world.World.frame_since.Goals as goal

own_view : (c : After-bytes_since) (s : State) → IsWorldOf s c.args.self.now → IsViewOf s.history (front_of s c.args.node) (view_of c.index.result.now)
own_view c s w =
    let place : c.from-place.result - 1 ≡ c.args.node - 1 = ap (λ (n : ℕ). n - 1) (c.from-place.ensures ∙ c.number.ensures.value) in
    let some : 1 ≤ c.args.node = omega (arith, c.number.ensures.range, c.number.ensures.value) in
    let count : length c.self.inside.replicas.items ≡ length c.args.self.now.replicas = ap (λ (m : Machine). length m.replicas) c.self.view_is in
    let there : c.from-place.result - 1 < length c.self.inside.replicas.items = omega (arith, place, some, count, c.requires.node) in
    let at : slice_get c.self.inside.replicas.items (c.args.node - 1) ≡ Some c.index.result.now = ap (slice_get c.self.inside.replicas.items) (sym place) ∙ get_at c.self.inside.replicas.items (c.from-place.result - 1) c.index.result.now there c.index.ensures in
    w.views c.args.node c.index.result.now some (ap (λ (m : Machine). slice_get m.replicas (c.args.node - 1)) (sym c.self.view_is) ∙ at)

pub returns-clause-sent : goal.returns-clause-sent
returns-clause-sent c s w =
    let view = own_view c s w in
    let some : 1 ≤ c.args.node = omega (arith, c.number.ensures.range, c.number.ensures.value) in
    let closed = (w.world.current c.args.node some (omega (arith, c.requires.node, w.nodes))).closed in
    IfOk-weaker c.bytes_since.result _ _
    (λ bytes sent. (
      sent.0,
      needs_none s c.args.node c.args.base.now c.args.version (view_of c.index.result.now) view sent.1,
      record { view = view_of c.index.result.now; sender = view; rules = sent.2; encodes = sent.3 },
    ))
    (c.bytes_since.ensures.sent s.history (front_of s c.args.node) w.world.lawful closed view)

pub returns-clause-refused : goal.returns-clause-refused
returns-clause-refused c s w =
    let view = own_view c s w in
    IfErr-weaker c.bytes_since.result _ _
    (λ refusal r. elim r [
      | inl none ↦ inl none
      | inr (inl gap) ↦ inr (inl (gap.0 ∙ ap (λ (v : List ℕ). Gap v) view.counts, λ below. gap.1 (subst (λ (v : List ℕ). IsBelow c.args.base.now v) (sym view.counts) below)))
      | inr (inr needs) ↦ inr (inr (needs.0, subst (λ (v : List ℕ). IsBelow c.args.base.now v) view.counts needs.1, (view_of c.index.result.now, view, needs.2)))
    ])
    c.bytes_since.ensures.refused
