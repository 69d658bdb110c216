use Rattle.std.proofs.Common.{arith}
use Rattle.std.proofs.lemmas.List.Edits.{map_over_more}
use Rattle.node_schedule.specs.Slips.{begun_to}
use Rattle.node_schedule.proofs.slip.begin_each.Goals as goal

pub loop-slip-preserved : goal.loop-slip-preserved
loop-slip-preserved c =
    rw (c.begin.ensures, ← c.slip-item.is) (map_over_more (begun_to c.args.who.now) c.args.slips.now c.loop-slip.slips c.loop-slip.slip-index c.slip-item.result
    (omega (arith, c.loop-slip-test.true)) c.loop-slip.invariant c.slip-item.is)
