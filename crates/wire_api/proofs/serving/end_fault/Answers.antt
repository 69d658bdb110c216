use Rattle.wire_api.specs.Answers.{fault_answer}
use Rattle.wire_api.proofs.serving.end_fault.Goals as goal

pub returns : goal.returns
returns g c = c.end.ensures.written (fault_answer c.args.fault) c.fault_answer-made.ensures
