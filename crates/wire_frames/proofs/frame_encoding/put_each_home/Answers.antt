use Rattle.std.proofs.Common.{◌∙◌, ◌++◌, List, ap, rules, subst}
use Rattle.std.specs.List.{All, flat_map}
use Rattle.state_forest.specs.declared.merging.Told.{Told}
use Rattle.state_forest.specs.declared.record.Record.{Record}
use Rattle.wire_frames.specs.Encoding.{record_text_as}
use Rattle.wire_frames.specs.Typed.{IsTypedRecord}
use Rattle.wire_frames.proofs.Put.{all_next, text_next}
use Rattle.wire_frames.proofs.frame_encoding.put_each_home.Goals as goal

pub loop-told-preserved : goal.loop-told-preserved
loop-told-preserved g c =
    let put = g.O.Output.text in
    let within = c.loop-told-test.true in
    record {
      same = search rules;
      text = text_next (λ (told : Told). flat_map (record_text_as c.args.version) told.records.records) c.args.homes.now c.loop-told.told-index c.told-item.result (put c.args.out.now) (put c.loop-told.out) (put c.put_each_record.new.out) within c.told-item.is c.loop-told.invariant.text (c.put_each_record.ensures.text ∙ ap (λ (rs : List Record). put c.loop-told.out ++ flat_map (record_text_as c.args.version) rs) c.records.ensures.records);
      typed = all_next (λ (told : Told). All IsTypedRecord told.records.records) c.args.homes.now c.loop-told.told-index c.told-item.result within c.told-item.is c.loop-told.invariant.typed (subst (All IsTypedRecord) c.records.ensures.records c.put_each_record.ensures.typed);
    }
