use Rattle.std.proofs.Common.{◌≡◌, ◌-◌, ◌≤◌, List, length}
use Rattle.state_forest.specs.declared.record.Record.{Record}
use Rattle.wire_frames.specs.Rules.{after, start, told_context}
use Rattle.wire_frames.specs.Reading.{read_record_at}
use Rattle.wire_frames.specs.Order.{AreInOrder, ArePut}
use Rattle.wire_frames.proofs.Loop.{SoFar}
use Rattle.wire_frames.proofs.ToldLists.{last_of}
use Rattle.wire_frames.proofs.frame_fields.each_record.Given as goal

-- some records were read and put, in order, and the others are left
abbrev pub invariant-records : goal.invariant-records
invariant-records g l = let seen = g.I.Input.seen in record {
  done : List Record;
  so_far : SoFar (read_record_at (told_context l.version l.base l.front l.fn.homes.items)) after l.count start (seen l.fn.input) done (l.count - l.counter) l.last (seen l.input);
  few : l.last.count ≤ l.counter;
  last : l.last ≡ last_of start done;
  order : AreInOrder (length l.front) start done;
  put : ArePut (length l.front) l.fn.homes.items l.homes.items done;
}
