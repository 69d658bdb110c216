use Rattle.wire_frames.proofs.HaveEncodings.{is_delta}
use Rattle.wire_frames.proofs.delta.Delta.write.Goals as goal

pub returns-then-out-clause-frame : goal.returns-then-out-clause-frame
returns-then-out-clause-frame g c = is_delta c.args.self.now c.put_frame.ensures.typed

pub returns-clause-frame : goal.returns-clause-frame
returns-clause-frame g c = is_delta c.args.self.now c.put_frame.ensures.typed
