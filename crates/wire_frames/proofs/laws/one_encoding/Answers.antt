use Rattle.wire_frames.proofs.FrameCodes.{one_delta, one_record}
use Rattle.wire_frames.proofs.laws.one_encoding.Goals as goal

pub returns : goal.returns
returns c = record { frame = one_delta; one = one_record }
