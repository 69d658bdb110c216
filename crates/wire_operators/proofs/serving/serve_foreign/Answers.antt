use Rattle.wire_operators.specs.Doors.{foreign_answer}
use Rattle.wire_operators.proofs.serving.serve_foreign.Goals as goal

pub returns : goal.returns
returns g c = c.end.ensures.written foreign_answer c.foreign_answer-made.ensures
