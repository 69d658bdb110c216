use Rattle.std.proofs.Common.{◌≤◌, Bool, length}
use Rattle.std.specs.List.{All}
use Rattle.wire_callbacks.specs.declared.duty.Duty.{Duty}
use Rattle.node_schedule.specs.Listing.{PutsSome}
use Rattle.node_schedule.specs.Named.{AllNamed, Passes}
use Rattle.node_schedule.specs.Once.{duties_for}
use Rattle.node_schedule.specs.declared.slip.Called.{Called}
use Rattle.node_schedule.proofs.Puts.{IsFirstFew}
use Rattle.node_schedule.proofs.schedule.Schedule.put_each.Given as goal

-- the duties so far named no other, and the rest are of the list; what the duties so far changed
abbrev pub invariant-loop-duty : goal.invariant-loop-duty
invariant-loop-duty l = record {
  named : (test : Duty → Bool) → AllNamed test l.fn.self → All (Passes test) l.fn.duties.items → AllNamed test l.self × All (Passes test) l.duty-iterator.rest.items;
  top : l.place ≤ 18446744073709551615;
  room : l.place ≤ length l.self.slips;
  first : (who : Called) → IsFirstFew who (duties_for who l.fn.duties.items) (duties_for who l.duty-iterator.rest.items) l.place l.self.slips;
  puts : (who : Called) → PutsSome l.now who (duties_for who l.fn.duties.items) (duties_for who l.duty-iterator.rest.items) l.fn.self l.self l.is_whole;
}
