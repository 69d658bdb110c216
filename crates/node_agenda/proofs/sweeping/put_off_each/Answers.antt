use Rattle.std.proofs.Common.{arith}
use Rattle.std.proofs.lemmas.List.Edits.{map_over_more}
use Rattle.node_agenda.specs.Sweeps.{put_off_if}
use Rattle.node_agenda.proofs.sweeping.put_off_each.Goals as goal

pub loop-root-preserved : goal.loop-root-preserved
loop-root-preserved c =
    rw (c.put_off.ensures, ← c.root-item.is) (map_over_more (put_off_if c.args.id c.args.purged.now c.args.now) c.args.ended.now c.loop-root.ended c.loop-root.root-index c.root-item.result
    (omega (arith, c.loop-root-test.true)) c.loop-root.invariant c.root-item.is)
