use Rattle.std.proofs.Common.{Ok, Err}
use Rattle.wire_frames.specs.declared.input.Stop.TheVariants.{Fault}
use Rattle.wire_frames.specs.Reading.{frame_at}
use Rattle.wire_frames.proofs.Slices.{slice_read}
use Rattle.wire_frames.proofs.decoding.frame_in_slice.Goals as goal

pub returns-in-Ok : goal.returns-in-Ok
returns-in-Ok c =
    let s = c.new-input.result in
    let n = c.frame_of.new.input in
    slice_read frame_at c.args.bytes.now n.all.now s.place s.limit n.place n.limit s.all.now (Ok c.in-Ok.delta) c.new-input.ensures c.in-Ok.ensures.answers n.there n.within

pub returns-in-Err-Fault : goal.returns-in-Err-Fault
returns-in-Err-Fault c =
    let s = c.new-input.result in
    let n = c.frame_of.new.input in
    slice_read frame_at c.args.bytes.now n.all.now s.place s.limit n.place n.limit s.all.now (Err (Fault c.in-Err-Fault.place)) c.new-input.ensures (rw c.in-Err-Fault.field-0-is at c.in-Err-Fault.ensures.answers) n.there n.within
