use Rattle.wire_frames.proofs.HaveEncodings.{is_first_delta}
use Rattle.wire_frames.proofs.frame_encoding.encoded_first.Goals as goal

pub returns-clause-frame : goal.returns-clause-frame
returns-clause-frame c = λ is none. is_first_delta c.args.delta.now c.put_frame.ensures.typed is none
