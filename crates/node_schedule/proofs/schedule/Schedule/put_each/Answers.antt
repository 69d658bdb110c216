use Rattle.std.proofs.Common.{◌≡◌, ◌≤◌, ◌+◌, [], Bool, List, arith, false, length, refl, subst, true}
use Rattle.wire_callbacks.specs.declared.duty.Duty.{Duty}
use Rattle.node_schedule.specs.Listing.{PutsOne, PutsSome}
use Rattle.node_schedule.specs.Once.{duties_for}
use Rattle.node_schedule.specs.declared.slip.Called.{Called}
use Rattle.node_schedule.proofs.Counts.{none_left}
use Rattle.node_schedule.proofs.Named.{put_next}
use Rattle.node_schedule.proofs.Puts.{false_true, first_capped, first_next, first_zero, puts_next}
use Rattle.node_schedule.proofs.schedule.Schedule.put_each.Goals as goal

pub loop-duty-preserved-then-put_at : goal.loop-duty-preserved-then-put_at
loop-duty-preserved-then-put_at c =
    let one = λ (who : Called). subst (λ (b : Bool). PutsOne c.args.now c.in-Some.duty c.loop-duty.place who c.loop-duty.self c.put_at.new.self b) c.if-put_at.true (c.put_at.ensures.puts who c.loop-duty.invariant.room) in
    let some_one : Called = record { id = record { home = 0; num = 0 }; member = 0; of_end = false } in
    let grown : c.loop-duty.place + 1 ≤ length c.put_at.new.self.slips = (one some_one).room in
    let below : c.loop-duty.place ≤ 18446744073709551615 = c.loop-duty.invariant.top in
    record {
      named = λ test all added.
          let so_far = c.loop-duty.invariant.named test all added in
          put_next test c.loop-duty.self c.put_at.new.self c.loop-duty.duty-iterator.rest.items c.next.new.self.rest.items c.in-Some.duty c.in-Some.ensures.steps.0 c.put_at.ensures.named so_far.0 so_far.1;
      top = omega (arith, c.saturating_add-place.ensures);
      room = omega (arith, grown, c.saturating_add-place.ensures);
      first = λ who.
          first_capped who (duties_for who c.args.duties.items) (duties_for who c.next.new.self.rest.items) c.loop-duty.place 18446744073709551615 c.saturating_add-place.result c.put_at.new.self.slips c.saturating_add-place.ensures below grown
          (first_next c.args.now who (duties_for who c.args.duties.items) c.loop-duty.place c.loop-duty.duty-iterator.rest.items c.next.new.self.rest.items c.in-Some.duty c.loop-duty.self c.put_at.new.self true c.in-Some.ensures.steps.0 (c.loop-duty.invariant.first who) (one who));
      puts = λ who.
          puts_next c.args.now who (duties_for who c.args.duties.items) c.loop-duty.place c.loop-duty.duty-iterator.rest.items c.next.new.self.rest.items c.in-Some.duty c.args.self.now c.loop-duty.self c.put_at.new.self c.loop-duty.is_whole c.loop-duty.is_whole true
          c.in-Some.ensures.steps.0 (c.loop-duty.invariant.puts who) (c.loop-duty.invariant.first who) (one who) (λ p. (p, refl));
    }

pub loop-duty-preserved : goal.loop-duty-preserved
loop-duty-preserved c =
    let one = λ (who : Called). subst (λ (b : Bool). PutsOne c.args.now c.in-Some.duty c.loop-duty.place who c.loop-duty.self c.put_at.new.self b) c.if-put_at.false (c.put_at.ensures.puts who c.loop-duty.invariant.room) in
    let some_one : Called = record { id = record { home = 0; num = 0 }; member = 0; of_end = false } in
    let grown : c.loop-duty.place + 0 ≤ length c.put_at.new.self.slips = (one some_one).room in
    record {
      named = λ test all added.
          let so_far = c.loop-duty.invariant.named test all added in
          put_next test c.loop-duty.self c.put_at.new.self c.loop-duty.duty-iterator.rest.items c.next.new.self.rest.items c.in-Some.duty c.in-Some.ensures.steps.0 c.put_at.ensures.named so_far.0 so_far.1;
      top = c.loop-duty.invariant.top;
      room = omega (arith, grown);
      first = λ who. first_zero who (duties_for who c.args.duties.items) (duties_for who c.next.new.self.rest.items) c.loop-duty.place c.put_at.new.self.slips
          (first_next c.args.now who (duties_for who c.args.duties.items) c.loop-duty.place c.loop-duty.duty-iterator.rest.items c.next.new.self.rest.items c.in-Some.duty c.loop-duty.self c.put_at.new.self false c.in-Some.ensures.steps.0 (c.loop-duty.invariant.first who) (one who));
      puts = λ who.
          puts_next c.args.now who (duties_for who c.args.duties.items) c.loop-duty.place c.loop-duty.duty-iterator.rest.items c.next.new.self.rest.items c.in-Some.duty c.args.self.now c.loop-duty.self c.put_at.new.self c.loop-duty.is_whole false false
          c.in-Some.ensures.steps.0 (c.loop-duty.invariant.puts who) (c.loop-duty.invariant.first who) (one who) (λ p. absurd (false_true p));
    }

pub returns-clause-puts : goal.returns-clause-puts
returns-clause-puts c = λ who.
    let none : c.loop-duty.duty-iterator.rest.items ≡ [] =
    none_left c.loop-duty.duty-iterator.rest.items (omega (arith, c.in-None.ensures.steps.0, c.loop-duty.duty-iterator.rest.ok)) in
    subst (λ (left : List Duty). PutsSome c.args.now who (duties_for who c.args.duties.items) (duties_for who left) c.args.self.now c.loop-duty.self c.loop-duty.is_whole) none (c.loop-duty.invariant.puts who)
