use Rattle.std.proofs.Common.{◌∙◌, arith, false, length, sym, true}
use Rattle.node_replication.specs.Spreads.{is_holder}
use Rattle.node_replication.proofs.Counting.{next_of}
use Rattle.node_replication.proofs.acknowledgements.holders.Goals as goal
use Rattle.node_replication.proofs.acknowledgements.holders.Goals.{then-is_holder, else-is_holder}

pub loop-place-preserved : goal.loop-place-preserved
loop-place-preserved c =
    let p = is_holder c.args.me c.args.least c.args.told.now in
    let i = c.loop-place.place in
    let n = length c.args.told.now in
    let few = c.loop-place.invariant.0 in
    let all = c.loop-place.invariant.1 in
    elim c.if-is_holder.branch [
      | then-is_holder w ↦
          let next = next_of p i n true (omega (arith, c.loop-place-test.true)) (sym c.is_holder.ensures ∙ w.if-is_holder.true) in
          (omega (arith, few, w.found-is), omega (arith, all, next, w.found-is))
      | else-is_holder w ↦
          let next = next_of p i n false (omega (arith, c.loop-place-test.true)) (sym c.is_holder.ensures ∙ w.if-is_holder.false) in
          (omega (arith, few, w.found-is), omega (arith, all, next, w.found-is))
    ]
