use Rattle.std.proofs.Common.{◌≡◌, ◌∙◌, rules}
use Rattle.theory_history.specs.Next.{shown_on}
use Rattle.state_replica.specs.Replicas.{view_of}
use Rattle.state_replica.proofs.PreparedReplies.{shown_settled}
use Rattle.state_replica.proofs.replica.Replica.status.Goals as goal

pub returns-clause-settled : goal.returns-clause-settled
returns-clause-settled c S settled stands =
    let next : c.shown.result ≡ shown_on (view_of c.args.self.now) c.args.id = search rules in
    next ∙ shown_settled S (view_of c.args.self.now) c.args.id settled stands
