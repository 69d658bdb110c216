use Rattle.std.proofs.Common.{arith, length-drop, length-set, ◌∙◌, ap, length}
use Rattle.wire_pulls.proofs.Coded.{one_more}
use Rattle.wire_pulls.proofs.bodies.counts_in.Goals as goal

pub loop-place-preserved : goal.loop-place-preserved
loop-place-preserved c =
    let inv = c.loop-place.invariant in
    record {
      all = length-set c.loop-place.counts c.loop-place.place c.number_in.result ∙ inv.all;
      there = omega (arith, inv.there, c.loop-place-test.true, ap length c.split_at.ensures.back, length-drop 8 c.loop-place.rest.now);
      so_far = one_more c.args.nodes c.loop-place.place c.loop-place.counts c.loop-place.rest.now c.split_at.result.1.now c.split_at.result.0.now _ c.number_in.result
          c.loop-place-test.true (omega (arith, c.loop-place-test.true, c.requires.few, inv.all)) c.split_at.ensures.front c.split_at.ensures.back c.number_in.ensures inv.so_far;
    }
