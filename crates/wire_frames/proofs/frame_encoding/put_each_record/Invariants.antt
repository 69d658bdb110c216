use Rattle.std.proofs.Common.{◌≡◌, ◌++◌}
use Rattle.std.specs.List.{All, AllByRecursion, flat_map}
use Rattle.wire_frames.specs.Encoding.{record_text_as}
use Rattle.wire_frames.specs.Typed.{IsTypedRecord}
use Rattle.wire_frames.proofs.frame_encoding.put_each_record.Given as goal

-- what was put, followed by the text of what is left; all records are typed if those that are left
-- are
abbrev pub invariant-loop-kept : goal.invariant-loop-kept
invariant-loop-kept g l = record {
  same : g.O.Output.start l.out ≡ g.O.Output.start l.fn.out;
  text : g.O.Output.text l.out ++ flat_map (record_text_as l.fn.version) l.kept-iterator ≡ g.O.Output.text l.fn.out ++ flat_map (record_text_as l.fn.version) l.fn.records;
  typed : AllByRecursion IsTypedRecord l.kept-iterator → All IsTypedRecord l.fn.records;
}
