use Rattle.std.proofs.Common.{◌≡◌, ◌∙◌, rules}
use Rattle.theory_history.specs.Next.{member_shown_on}
use Rattle.state_replica.specs.Replicas.{view_of}
use Rattle.state_replica.proofs.PreparedReplies.{member_settled}
use Rattle.state_replica.proofs.replica.Replica.member.Goals as goal

pub returns-clause-settled : goal.returns-clause-settled
returns-clause-settled c S settled stands =
    let next : c.member_status.result ≡ member_shown_on (view_of c.args.self.now) c.args.id c.args.member = search rules in
    next ∙ member_settled S (view_of c.args.self.now) c.args.id c.args.member settled stands
