use Rattle.std.proofs.Common.{arith}
use Rattle.std.proofs.lemmas.Grind.{common_steps}
use Rattle.wire_http.proofs.Known.{takes_slice, part_kept}
use Rattle.wire_http.proofs.bytes.write_all.Goals as goal

pub loop-done-preserved-in-Ok : goal.loop-done-preserved-in-Ok
loop-done-preserved-in-Ok g c = record {
  within = grind (arith, common_steps);
  wrote = takes_slice _ _ _ c.loop-done.done c.in-Ok.n c.args.bytes.now c.loop-done.invariant.wrote c.in-Ok.ensures.bytes;
  below = omega arith;
  made = grind (arith, common_steps, c.in-Ok.ensures.calls.made, c.in-Ok.ensures.calls.interrupted, c.loop-done.invariant.made);
  counted = omega (arith, c.in-Ok.ensures.calls.interrupted, c.loop-done.invariant.counted);
  none_failed = omega (arith, c.in-Ok.ensures.calls.failed, c.loop-done.invariant.none_failed);
}

pub returns-then-interrupted-eq-TOO_MANY_INTERRUPTED-clause-part : goal.returns-then-interrupted-eq-TOO_MANY_INTERRUPTED-clause-part
returns-then-interrupted-eq-TOO_MANY_INTERRUPTED-clause-part g c =
    part_kept _ _ _ c.loop-done.done c.args.bytes.now c.loop-done.invariant.wrote c.in-Err-Interrupted.ensures.bytes

pub returns-in-Err-Failed-clause-part : goal.returns-in-Err-Failed-clause-part
returns-in-Err-Failed-clause-part g c =
    part_kept _ _ _ c.loop-done.done c.args.bytes.now c.loop-done.invariant.wrote c.in-Err-Failed.ensures.bytes
