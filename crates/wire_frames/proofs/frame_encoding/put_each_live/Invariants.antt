use Rattle.std.proofs.Common.{◌≡◌, ◌++◌, take}
use Rattle.std.specs.List.{flat_map}
use Rattle.state_forest.specs.declared.merging.Told.{Told}
use Rattle.state_forest.specs.RecordMerges.{held_numbers}
use Rattle.wire_frames.specs.Encoding.{live}
use Rattle.wire_frames.proofs.frame_encoding.put_each_live.Given as goal

abbrev pub invariant-loop-told : goal.invariant-loop-told
invariant-loop-told g l = record {
  same : g.O.Output.start l.out ≡ g.O.Output.start l.fn.out;
  text : g.O.Output.text l.out ≡ g.O.Output.text l.fn.out ++ flat_map (λ (told : Told). live (held_numbers told.held)) (take l.told-index l.homes);
}
