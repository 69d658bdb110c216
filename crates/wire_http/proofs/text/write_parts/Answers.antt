use Rattle.wire_http.proofs.Known.{part_before, part_after, part_whole}
use Rattle.wire_http.proofs.text.write_parts.Goals as goal

pub returns-in_err-write_all-clause-part : goal.returns-in_err-write_all-clause-part
returns-in_err-write_all-clause-part g c = part_before _ _ _ c.args.head.now (g.B.Part.text c.args.body.now) c.in_err-write_all.ensures.part

pub returns-in_err-write-clause-part : goal.returns-in_err-write-clause-part
returns-in_err-write-clause-part g c =
    part_after _ _ _ _ c.args.head.now (g.B.Part.text c.args.body.now) c.in_ok-write_all.ensures.ok c.in_err-write.ensures.part

pub returns-clause-part : goal.returns-clause-part
returns-clause-part g c =
    part_whole _ _ _ _ _ c.args.head.now (g.B.Part.text c.args.body.now) c.in_ok-write_all.ensures.ok c.in_ok-write.ensures.ok c.flush.ensures.none
