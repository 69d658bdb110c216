use Rattle.std.proofs.Common.{rules}
use Rattle.wire_frames.specs.Encoding.{member}
use Rattle.wire_frames.specs.Typed.{HasLinks}
use Rattle.wire_frames.proofs.Put.{all_next, text_next}
use Rattle.wire_frames.proofs.record_encoding.put_each_member.Goals as goal

pub loop-m-preserved : goal.loop-m-preserved
loop-m-preserved g c =
    let put = g.O.Output.text in
    let within = c.loop-m-test.true in
    record {
      same = search rules;
      text = text_next (member c.args.version) c.args.ms.now c.loop-m.m-index c.m-item.result (put c.args.out.now) (put c.loop-m.out) (put c.put_member.new.out) within c.m-item.is c.loop-m.invariant.text c.put_member.ensures.text;
      links = all_next HasLinks c.args.ms.now c.loop-m.m-index c.m-item.result within c.m-item.is c.loop-m.invariant.links c.put_member.ensures.links;
    }
