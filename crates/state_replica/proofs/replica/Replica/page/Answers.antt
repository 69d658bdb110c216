use Rattle.state_replica.specs.Replicas.{view_of}
use Rattle.state_replica.proofs.Paging.{page_alike}
use Rattle.state_replica.proofs.replica.Replica.page.Goals as goal

pub returns-clause-settled : goal.returns-clause-settled
returns-clause-settled c S settled stands = page_alike S (view_of c.args.self.now) c.args.after c.in_ok-next_rows.field-0 settled stands c.in_ok-next_rows.ensures
