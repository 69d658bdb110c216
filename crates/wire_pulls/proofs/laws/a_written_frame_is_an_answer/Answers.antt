use Rattle.wire_pulls.proofs.Sounds.{written_frame}
use Rattle.wire_pulls.proofs.laws.a_written_frame_is_an_answer.Goals as goal

pub returns : goal.returns
returns c = written_frame
