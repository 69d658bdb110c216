use Rattle.wire_frames.proofs.HaveEncodings.{is_delta}
use Rattle.wire_frames.proofs.frame_encoding.encode.Goals as goal

pub returns-clause-frame : goal.returns-clause-frame
returns-clause-frame c = is_delta c.args.delta.now c.put_frame.ensures.typed
