use Rattle.node_worker.specs.Addressees.{misdirected_answer}
use Rattle.node_worker.proofs.serving.end_misdirected.Goals as goal

pub returns : goal.returns
returns g c = c.end.ensures.written (misdirected_answer c.args.node.now) c.misdirected_answer-made.ensures
