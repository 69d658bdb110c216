use Rattle.std.proofs.Common.{arith}
use Rattle.std.proofs.lemmas.List.Edits.{map_over_more}
use Rattle.node_agenda.specs.Sweeps.{hastened}
use Rattle.node_agenda.proofs.sweeping.hasten_each.Goals as goal

pub loop-root-preserved : goal.loop-root-preserved
loop-root-preserved c =
    rw (c.hasten.ensures, ← c.root-item.is) (map_over_more (hastened c.args.now) c.args.ended.now c.loop-root.ended c.loop-root.root-index c.root-item.result
    (omega (arith, c.loop-root-test.true)) c.loop-root.invariant c.root-item.is)
