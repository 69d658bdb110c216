use Rattle.std.proofs.Common.{arith}
use Rattle.std.proofs.lemmas.Grind.{common_steps}
use Rattle.wire_narayana.proofs.OneMore.{interim_more}
use Rattle.wire_narayana.proofs.message.read_final.Goals as goal

pub loop-count-preserved : goal.loop-count-preserved
loop-count-preserved g c = record {
  below = c.in_ok-head.ensures.below;
  taken = interim_more _ _ _ _ c.in-Some.code c.in-Some.framing c.loop-count.invariant.taken c.in_ok-head.ensures.gives (rw c.deref.ensures.value at c.in-Some.ensures) (grind (arith, common_steps));
}
