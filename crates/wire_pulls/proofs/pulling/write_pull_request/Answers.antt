use Rattle.wire_pulls.proofs.Pulled.{sent_of, unsent_of}
use Rattle.wire_pulls.proofs.pulling.write_pull_request.Goals as goal

pub returns-clause-sent : goal.returns-clause-sent
returns-clause-sent g c =
    sent_of _ _ _ _ _ _ _ c.write_request.result c.in_ok-request.ensures c.write_request.ensures.ok c.write_request.ensures.streams

pub returns-clause-unsent : goal.returns-clause-unsent
returns-clause-unsent g c =
    unsent_of _ _ _ _ _ _ _ c.write_request.result c.in_ok-request.ensures c.write_request.ensures.part c.write_request.ensures.streams
