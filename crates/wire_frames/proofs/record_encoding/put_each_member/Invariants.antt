use Rattle.std.proofs.Common.{◌≡◌, ◌++◌, take}
use Rattle.std.specs.List.{All, flat_map}
use Rattle.wire_frames.specs.Encoding.{member}
use Rattle.wire_frames.specs.Typed.{HasLinks}
use Rattle.wire_frames.proofs.record_encoding.put_each_member.Given as goal

abbrev pub invariant-loop-m : goal.invariant-loop-m
invariant-loop-m g l = record {
  same : g.O.Output.start l.out ≡ g.O.Output.start l.fn.out;
  text : g.O.Output.text l.out ≡ g.O.Output.text l.fn.out ++ flat_map (member l.version) (take l.m-index l.ms);
  links : All HasLinks (take l.m-index l.ms);
}
