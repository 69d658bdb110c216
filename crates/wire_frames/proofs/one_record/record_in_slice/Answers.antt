use Rattle.std.proofs.Common.{Ok, Err}
use Rattle.wire_frames.specs.declared.input.Stop.TheVariants.{Fault}
use Rattle.wire_frames.specs.OneRecord.{alone_at}
use Rattle.wire_frames.proofs.Slices.{slice_read}
use Rattle.wire_frames.proofs.one_record.record_in_slice.Goals as goal

pub returns-in-Ok : goal.returns-in-Ok
returns-in-Ok c =
    let s = c.new-input.result in
    let n = c.alone_of.new.input in
    slice_read (alone_at c.args.version c.args.front.now) c.args.bytes.now n.all.now s.place s.limit n.place n.limit s.all.now (Ok c.in-Ok.kept) c.new-input.ensures c.in-Ok.ensures n.there n.within

pub returns-in-Err-Fault : goal.returns-in-Err-Fault
returns-in-Err-Fault c =
    let s = c.new-input.result in
    let n = c.alone_of.new.input in
    slice_read (alone_at c.args.version c.args.front.now) c.args.bytes.now n.all.now s.place s.limit n.place n.limit s.all.now (Err (Fault c.in-Err-Fault.place)) c.new-input.ensures (rw c.in-Err-Fault.field-0-is at c.in-Err-Fault.ensures) n.there n.within
