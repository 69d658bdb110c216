use Rattle.std.proofs.Common.{◌≡◌, ◌-◌, length}
use Rattle.wire_frames.specs.Order.{AreEmpty, lists, live_of_place, next_place}
use Rattle.wire_frames.proofs.Loop.{SoFar}
use Rattle.wire_frames.proofs.frame_fields.each_home.Given as goal

abbrev pub invariant-homes : goal.invariant-homes
invariant-homes g l = let seen = g.I.Input.seen in record {
  so_far : SoFar (live_of_place l.base l.purges l.front) next_place l.nodes 0 (seen l.fn.input) (lists l.list.items) (l.nodes - l.place) l.place (seen l.input);
  len : length l.list.items ≡ l.place;
  empty : AreEmpty l.place l.list.items;
}
