use Rattle.wire_api.specs.Answers.{refusal_answer}
use Rattle.wire_api.proofs.serving.end_refused.Goals as goal

pub returns : goal.returns
returns g c = c.end.ensures.written (refusal_answer c.args.refusal.now) c.refusal_answer-made.ensures
