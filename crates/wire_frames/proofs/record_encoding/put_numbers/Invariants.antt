use Rattle.std.proofs.Common.{◌≡◌, ◌++◌, take}
use Rattle.std.specs.List.{flat_map}
use Rattle.wire_frames.specs.Encoding.{number}
use Rattle.wire_frames.proofs.record_encoding.put_numbers.Given as goal

abbrev pub invariant-loop-n : goal.invariant-loop-n
invariant-loop-n g l = record {
  same : g.O.Output.start l.out ≡ g.O.Output.start l.fn.out;
  text : g.O.Output.text l.out ≡ g.O.Output.text l.fn.out ++ flat_map number (take l.n-index l.ns);
}
