use Rattle.wire_operators.proofs.Sent.{ended}
use Rattle.wire_operators.specs.Serving.{IsTold}
use Rattle.wire_operators.proofs.serving.serve_state.Goals as goal

pub returns : goal.returns
returns g c =
    ended (IsTold g.T.State c.args.state.now c.args.topic) c.told_answer-made.result g.W.Sink c.args.writer.now c.end.new.writer c.end.result
    c.told_answer-made.ensures c.end.ensures.written c.end.ensures.none
