use Rattle.std.proofs.Common.{arith, get_or, length, subst, sym, ◌≡◌, ◌<◌}
use Rattle.std.proofs.lemmas.List.{get_or_default}
use Rattle.std.proofs.lemmas.List.Elements.{All-set}
use Rattle.node_schedule.specs.Named.{IsKept}
use Rattle.node_schedule.specs.Pausing.{nobody, slip_at}
use Rattle.node_schedule.specs.Resuming.{IsResumed, ResumesOne}
use Rattle.node_schedule.specs.declared.slip.Slip.{Slip}
use Rattle.node_schedule.proofs.FirstPause.{pause_next}
use Rattle.node_schedule.proofs.Resumed.{each_next, resumed, resumes_next, rest_next, stray_next}
use Rattle.node_schedule.proofs.schedule.resume_all.Goals as goal

pub loop-slip-preserved : goal.loop-slip-preserved
loop-slip-preserved c =
    let bound : c.loop-slip.slip-index < length c.loop-slip.slips = omega (arith, c.loop-slip-test.true, c.loop-slip.auto.slips) in
    let was : get_or c.loop-slip.slips c.loop-slip.slip-index c.slip-item.result ≡ slip_at c.loop-slip.slips c.loop-slip.slip-index = sym (get_or_default c.loop-slip.slips c.loop-slip.slip-index nobody c.slip-item.result bound) in
    let one = subst (λ (slip : Slip). ResumesOne c.args.now slip c.resume_one-next.new.slip c.loop-slip.hosts c.resume_one-next.new.hosts c.loop-slip.next c.resume_one-next.result) was c.resume_one-next.ensures.resumed in
    let same : slip_at c.loop-slip.slips c.loop-slip.slip-index ≡ slip_at c.args.slips.now c.loop-slip.slip-index = c.loop-slip.invariant.rest c.loop-slip.slip-index (omega arith) in
    record {
      named = λ test kept waiting.
          let so_far = c.loop-slip.invariant.named test kept waiting in
          let resumed = c.resume_one-next.ensures.named test (so_far.0 c.loop-slip.slip-index c.slip-item.result bound) so_far.1 in
          (All-set (IsKept test) c.loop-slip.slips c.loop-slip.slip-index c.resume_one-next.new.slip resumed.0 so_far.0, resumed.1);
      each = each_next c.args.now c.args.slips.now c.loop-slip.slips c.loop-slip.slip-index c.resume_one-next.new.slip bound
          (subst (λ (slip : Slip). IsResumed c.args.now slip c.resume_one-next.new.slip) same
          (resumed c.args.now (slip_at c.loop-slip.slips c.loop-slip.slip-index) c.resume_one-next.new.slip c.loop-slip.hosts c.resume_one-next.new.hosts c.loop-slip.next c.resume_one-next.result one)) c.loop-slip.invariant.each;
      rest = rest_next c.args.slips.now c.loop-slip.slips c.loop-slip.slip-index c.resume_one-next.new.slip c.loop-slip.invariant.rest;
      stray = λ own. stray_next c.args.now c.args.slips.now c.loop-slip.slips c.loop-slip.slip-index c.resume_one-next.new.slip c.loop-slip.hosts c.resume_one-next.new.hosts c.loop-slip.next c.resume_one-next.result bound one
          (c.loop-slip.invariant.stray own);
      puts = λ own who. resumes_next c.args.now who c.args.slips.now c.loop-slip.slips c.loop-slip.slip-index c.resume_one-next.new.slip c.args.hosts.now c.loop-slip.hosts c.resume_one-next.new.hosts c.loop-slip.next c.resume_one-next.result bound one
          (c.loop-slip.invariant.stray own) (c.loop-slip.invariant.puts own who);
      next = pause_next c.args.now c.loop-slip.slip-index c.args.slips.now c.resume_one-next.new.slip c.loop-slip.hosts c.resume_one-next.new.hosts c.loop-slip.next c.resume_one-next.result
          (subst (λ (slip : Slip). ResumesOne c.args.now slip c.resume_one-next.new.slip c.loop-slip.hosts c.resume_one-next.new.hosts c.loop-slip.next c.resume_one-next.result) same one) c.loop-slip.invariant.next;
    }
