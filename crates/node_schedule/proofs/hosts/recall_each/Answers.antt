use Rattle.std.proofs.Common.{arith}
use Rattle.std.proofs.lemmas.List.Edits.{map_over_more}
use Rattle.node_schedule.specs.Turns.{recalled}
use Rattle.node_schedule.proofs.hosts.recall_each.Goals as goal

pub loop-host-preserved : goal.loop-host-preserved
loop-host-preserved c =
    rw (c.recall.ensures, ← c.host-item.is) (map_over_more recalled c.args.hosts.now c.loop-host.hosts c.loop-host.host-index c.host-item.result
    (omega (arith, c.loop-host-test.true)) c.loop-host.invariant c.host-item.is)
