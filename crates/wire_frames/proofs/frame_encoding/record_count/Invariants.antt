use Rattle.std.proofs.Common.{◌≡◌, ◌%◌, ◌^◌, take, length}
use Rattle.wire_frames.specs.Order.{records_told}
use Rattle.wire_frames.specs.Encoding.{flat}
use Rattle.wire_frames.proofs.frame_encoding.record_count.Given as goal

abbrev pub invariant-loop-told : goal.invariant-loop-told
invariant-loop-told l = l.count ≡ length (flat (records_told (take l.told-index l.homes))) % 2 ^ 64
