use Rattle.std.proofs.Common.{◌≡◌, ◌≤◌, ◌<◌, ℕ, Bool}
use Rattle.std.specs.List.{count_by}
use Rattle.wire_callbacks.specs.declared.duty.Duty.{Duty}
use Rattle.node_schedule.specs.Named.{AllKept, AllWaiting}
use Rattle.node_schedule.specs.Once.{is_stray}
use Rattle.node_schedule.specs.Pausing.{slip_at}
use Rattle.node_schedule.specs.Resuming.{IsFirstPause, IsResumed, ResumesFor}
use Rattle.node_schedule.specs.declared.slip.Called.{Called}
use Rattle.node_schedule.proofs.schedule.resume_all.Given as goal

-- the slips so far are resumed, and the others are as they were
abbrev pub invariant-loop-slip : goal.invariant-loop-slip
invariant-loop-slip l = record {
  named : (test : Duty → Bool) → AllKept test l.fn.slips → AllWaiting test l.fn.hosts.hosts → AllKept test l.slips × AllWaiting test l.hosts.hosts;
  each : (place : ℕ) → place < l.slip-index → IsResumed l.now (slip_at l.fn.slips place) (slip_at l.slips place);
  rest : (place : ℕ) → l.slip-index ≤ place → slip_at l.slips place ≡ slip_at l.fn.slips place;
  stray : count_by is_stray l.fn.slips ≡ 0 → count_by is_stray l.slips ≡ 0;
  puts : count_by is_stray l.fn.slips ≡ 0 → (who : Called) → ResumesFor who l.fn.slips l.slips l.fn.hosts.hosts l.hosts.hosts;
  next : IsFirstPause l.now l.slip-index l.fn.slips l.next;
}
