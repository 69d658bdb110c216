use Rattle.std.proofs.Common.{arith, length, subst, sym, IfSome, Option, ◌<◌}
use Rattle.std.proofs.lemmas.List.Edits.{map_over_more}
use Rattle.std.proofs.lemmas.List.Elements.{All-set}
use Rattle.wire_callbacks.specs.declared.duty.Duty.{Duty}
use Rattle.node_schedule.specs.Named.{IsKept, Passes}
use Rattle.node_schedule.specs.Slips.{taken_back}
use Rattle.node_schedule.proofs.schedule.recall_each.Goals as goal

pub loop-slip-preserved : goal.loop-slip-preserved
loop-slip-preserved c =
    let bound : c.loop-slip.slip-index < length c.args.slips.now = omega (arith, c.loop-slip-test.true) in
    let bound2 : c.loop-slip.slip-index < length c.loop-slip.slips = omega (arith, c.loop-slip-test.true, c.loop-slip.auto.slips) in
    record {
      exact = rw (c.recall.ensures.exact, ← c.slip-item.is) (map_over_more taken_back c.args.slips.now c.loop-slip.slips c.loop-slip.slip-index c.slip-item.result bound c.loop-slip.invariant.exact c.slip-item.is);
      kept = λ test kept.
          let so_far = c.loop-slip.invariant.kept test kept in
          All-set (IsKept test) c.loop-slip.slips c.loop-slip.slip-index c.recall.new.self
          (subst (λ (k : Option Duty). IfSome k (Passes test)) (sym c.recall.ensures.recalled.kept) tt) so_far;
    }
