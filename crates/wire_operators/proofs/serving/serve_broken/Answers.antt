use Rattle.state_facts.specs.declared.refusal.Refusal.TheVariants.{BadText}
use Rattle.wire_api.specs.Answers.{refusal_answer}
use Rattle.wire_operators.proofs.serving.serve_broken.Goals as goal

pub returns : goal.returns
returns g c = c.end.ensures.written (refusal_answer BadText) c.refusal_answer-made.ensures
