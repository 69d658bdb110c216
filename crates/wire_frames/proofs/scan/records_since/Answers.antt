use Rattle.std.proofs.Common.{◌≡◌, ◌∙◌, Bool, filter, subst, sym}
use Rattle.std.specs.List.{AllByRecursion}
use Rattle.state_forest.specs.declared.record.Record.{Record}
use Rattle.wire_frames.specs.Frames.{is_beyond}
use Rattle.wire_frames.proofs.HomeParts.{next_passing, passed_before}
use Rattle.wire_frames.proofs.scan.records_since.Goals as goal

pub push_newer-requires-clause-home : goal.push_newer-requires-clause-home
push_newer-requires-clause-home c =
    let left = subst (AllByRecursion (λ (r : Record). r.home ≡ c.args.home.now.home)) c.in-Some.ensures.steps c.loop-record.invariant.left in
    left.0 ∙ sym c.loop-record.invariant.home

pub push_newer-requires-clause-last : goal.push_newer-requires-clause-last
push_newer-requires-clause-last c =
    passed_before (λ r. is_beyond c.args.base.now r.stamps) c.args.home.now.home c.args.home.now.records c.loop-record.since.records c.loop-record.record-iterator c.next.new.self c.in-Some.record.now
    c.records-record-items.ensures.order c.in-Some.ensures.steps c.loop-record.invariant.newer

pub loop-record-preserved : goal.loop-record-preserved
loop-record-preserved c =
    let test : Record → Bool = λ r. is_beyond c.args.base.now r.stamps in
    let left = subst (AllByRecursion (λ (r : Record). r.home ≡ c.args.home.now.home)) c.in-Some.ensures.steps c.loop-record.invariant.left in
    record {
      home = c.in_ok-push_newer.ensures.home ∙ c.loop-record.invariant.home;
      newer = next_passing test c.loop-record.since.records c.loop-record.record-iterator c.next.new.self c.push_newer.new.since.records (filter test c.args.home.now.records) c.in-Some.record.now
          c.in-Some.ensures.steps c.loop-record.invariant.newer c.in_ok-push_newer.ensures.records;
      left = left.1;
    }
