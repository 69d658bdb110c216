use Rattle.std.proofs.Common.{◌≡◌, ◌++◌, take}
use Rattle.std.specs.List.{All, flat_map}
use Rattle.state_forest.specs.declared.merging.Told.{Told}
use Rattle.wire_frames.specs.Encoding.{record_text_as}
use Rattle.wire_frames.specs.Typed.{IsTypedRecord}
use Rattle.wire_frames.proofs.frame_encoding.put_each_home.Given as goal

abbrev pub invariant-loop-told : goal.invariant-loop-told
invariant-loop-told g l = record {
  same : g.O.Output.start l.out ≡ g.O.Output.start l.fn.out;
  text : g.O.Output.text l.out ≡ g.O.Output.text l.fn.out ++ flat_map (λ (told : Told). flat_map (record_text_as l.version) told.records.records) (take l.told-index l.homes);
  typed : All (λ (told : Told). All IsTypedRecord told.records.records) (take l.told-index l.homes);
}
