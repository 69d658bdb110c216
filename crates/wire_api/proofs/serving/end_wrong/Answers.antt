use Rattle.wire_api.specs.Answers.{why_answer}
use Rattle.wire_api.proofs.serving.end_wrong.Goals as goal

pub returns : goal.returns
returns g c = c.end.ensures.written (why_answer c.args.why.now) c.why_answer-made.ensures
