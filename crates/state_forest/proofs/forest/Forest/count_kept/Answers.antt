use Rattle.std.proofs.Common.{ap, arith, length}
use Rattle.state_forest.proofs.forest.Forest.count_kept.Goals as goal

pub overflow_add-count : goal.overflow_add-count
overflow_add-count c = omega (arith, c.loop-record.invariant.few, ap length c.in-Some.ensures.steps, c.len-held.ensures.count, c.len-held.type_inv)
