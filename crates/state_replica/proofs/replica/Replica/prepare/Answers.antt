use Rattle.state_replica.specs.Replicas.{view_of}
use Rattle.state_replica.proofs.PreparedReplies.{prepared_of_set}
use Rattle.state_replica.proofs.replica.Replica.prepare.Goals as goal

pub returns-clause-prepared : goal.returns-clause-prepared
returns-clause-prepared c S settled stands =
    prepared_of_set S (view_of c.args.self.now) c.args.me c.args.command c.outcome.result c.outcome.ensures.some c.requires settled stands c.outcome.ensures.next
