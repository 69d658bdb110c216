use Rattle.std.proofs.Common.{◌≡◌, ◌∙◌, ℕ, List, sym, ap, subst}
use Rattle.state_ids.specs.Fronts.{IsBelow, join_fronts}
use Rattle.theory_history.specs.Merging.{IsTelling, Telling}
use Rattle.state_replica.specs.Replicas.{IsReplicaState, ReplicaState}
use Rattle.state_replica.proofs.Absorbed.{patch_absorbs, patch_fits, patch_shapes}
use Rattle.state_replica.proofs.Homes.{opened_in_order}
use Rattle.state_replica.proofs.replica.Replica.absorb.Goals as goal

kept_is : (c : goal.In_ok-absorb_all) → IsReplicaState c.args.self.now
kept_is c = subst (λ (k : ReplicaState). IsReplicaState k) c.self.view_is c.self.invariant

telling_is : (c : goal.In_ok-absorb_all) → IsTelling c.args.taken
telling_is c = subst (λ (t : Telling). IsTelling t) c.taken.view_is c.taken.invariant

front_is : (c : goal.In_ok-absorb_all) → c.absorb_all.new.patch.front ≡ join_fronts c.args.self.now.front c.args.taken.front
front_is c =
    c.in_ok-absorb_all.ensures.front ∙ c.join.ensures.value
    ∙ ap (λ (k : ReplicaState). join_fronts k.front c.taken.inside.front) c.self.view_is ∙ ap (λ (t : Telling). join_fronts c.args.self.now.front t.front) c.taken.view_is

purges_are : (c : goal.In_ok-absorb_all) → c.absorb_all.new.patch.purges ≡ join_fronts c.args.self.now.purges c.args.taken.purges
purges_are c =
    c.in_ok-absorb_all.ensures.purges ∙ c.join-2.ensures.value
    ∙ ap (λ (k : ReplicaState). join_fronts k.purges c.taken.inside.purges) c.self.view_is ∙ ap (λ (t : Telling). join_fronts c.args.self.now.purges t.purges) c.taken.view_is

pub returns-clause-room : goal.returns-clause-room
returns-clause-room c =
    patch_fits c.args.self.now c.absorb_all.new.self c.args.taken c.absorb_all.new.patch (kept_is c) (telling_is c) c.requires
    c.in_ok-absorb_all.ensures.view c.in_ok-absorb_all.ensures.taken (front_is c) (purges_are c) c.in_ok-absorb_all.ensures.entries

pub returns-clause-absorbed : goal.returns-clause-absorbed
returns-clause-absorbed c =
    patch_absorbs c.args.self.now c.absorb_all.new.self c.args.taken c.absorb_all.new.patch (kept_is c) (telling_is c) c.requires
    c.in_ok-absorb_all.ensures.view c.in_ok-absorb_all.ensures.taken (front_is c) (purges_are c)

pub returns-clause-shape : goal.returns-clause-shape
returns-clause-shape c =
    let below : IsBelow c.join-2.result c.join.result = c.below.ensures.0 c.if-not-below.false in
    patch_shapes c.args.self.now c.absorb_all.new.self c.args.taken c.absorb_all.new.patch (kept_is c) (telling_is c) c.requires
    c.in_ok-absorb_all.ensures.view c.in_ok-absorb_all.ensures.taken (front_is c) (purges_are c)
    (subst (λ (v : List ℕ). IsBelow v c.absorb_all.new.patch.front) (sym c.in_ok-absorb_all.ensures.purges)
    (subst (λ (v : List ℕ). IsBelow c.join-2.result v) (sym c.in_ok-absorb_all.ensures.front) below))

pub returns-clause-order : goal.returns-clause-order
returns-clause-order c = opened_in_order _ c.args.self.now c.self.view_is c.self.invariant

pub returns-then-not-below-clause-order : goal.returns-then-not-below-clause-order
returns-then-not-below-clause-order c = opened_in_order _ c.args.self.now c.self.view_is c.self.invariant

pub returns-in_err-absorb_all-clause-order : goal.returns-in_err-absorb_all-clause-order
returns-in_err-absorb_all-clause-order c = opened_in_order _ c.args.self.now c.self.view_is c.self.invariant
