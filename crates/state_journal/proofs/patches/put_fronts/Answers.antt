use Rattle.std.proofs.Common.{◌≡◌, refl, subst, ◌∙◌, arith, length, ◌+◌}
use Rattle.sqlite.specs.Held.{state}
use Rattle.sqlite.proofs.StateLemmas.{survives_then}
use Rattle.state_ids.specs.Fronts.{count}
use Rattle.state_journal.specs.Tables.{GoesOn, SetsFront, SetsFronts, signed}
use Rattle.state_journal.proofs.Chain.{stays, kept_same, kept_then, begun, goes_then}
use Rattle.state_journal.proofs.FrontLoop.{no_fronts, fronts_more}
use Rattle.state_journal.proofs.patches.put_fronts.Goals as goal

pub places-init : goal.places-init
places-init g c = (refl, stays _, λ _. kept_same _, λ _ writing. begun (SetsFronts c.args.front.now c.args.purges.now 0) _ writing (no_fronts _ _ _ writing.formed))

pub returns-in_err-put_node-clause-same_reference : goal.returns-in_err-put_node-clause-same_reference
returns-in_err-put_node-clause-same_reference g c = c.put_node.ensures.same_reference ∙ c.places.invariant.0

pub returns-in_err-put_node-clause-survives : goal.returns-in_err-put_node-clause-survives
returns-in_err-put_node-clause-survives g c = survives_then _ _ _ _ _ _ (λ _ db none. none) (λ _ db none. none) c.places.invariant.1 c.put_node.ensures.survives

pub returns-in_err-put_node-clause-kept : goal.returns-in_err-put_node-clause-kept
returns-in_err-put_node-clause-kept g c clean =
    kept_then _ _ _ (c.places.invariant.2 (omega (arith, c.put_node.ensures.survives.clean, clean))) (c.put_node.ensures.kept clean)

pub places-preserved : goal.places-preserved
places-preserved g c = (
  c.put_node.ensures.same_reference ∙ c.places.invariant.0,
  survives_then _ _ _ _ _ _ (λ _ db none. none) (λ _ db none. none) c.places.invariant.1 c.put_node.ensures.survives,
  λ clean. kept_then _ _ _ (c.places.invariant.2 (omega (arith, c.put_node.ensures.survives.clean, clean))) (c.put_node.ensures.kept clean),
  λ clean writing.
      let front = c.args.front.now in
      let purges = c.args.purges.now in
      let place = c.places.place in
      let was = c.places.invariant.3 (omega (arith, c.put_node.ensures.survives.clean, clean)) writing in
      let did = c.in_ok-put_node.ensures.ok clean was.writing in
      let node = c.node_at.result in
      goes_then (SetsFronts front purges place) (SetsFront node (signed (count front node)) (signed (count purges node))) (SetsFronts front purges (place + 1)) _ _ _
      (fronts_more front purges place node _ _ _ c.node_at.ensures) was did,
)

pub returns-clause-same_reference : goal.returns-clause-same_reference
returns-clause-same_reference g c = c.places.invariant.0

pub returns-clause-survives : goal.returns-clause-survives
returns-clause-survives g c = c.places.invariant.1

pub returns-clause-kept : goal.returns-clause-kept
returns-clause-kept g c = c.places.invariant.2

pub returns-clause-ok : goal.returns-clause-ok
returns-clause-ok g c clean writing =
    let end : c.places.place ≡ length c.args.front.now = omega (arith, c.places.auto.place-end, c.places-test.false, c.nodes-place-end.ensures.value) in
    subst (λ n. GoesOn (SetsFronts c.args.front.now c.args.purges.now n) (state g.S.Store c.args.tx.now.conn.now) (state g.S.Store c.places.tx.conn.now)) end (c.places.invariant.3 clean writing)
