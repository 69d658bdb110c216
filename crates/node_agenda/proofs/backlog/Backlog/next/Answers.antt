use Rattle.std.proofs.Common.{refl}
use Rattle.node_agenda.proofs.FirstDue.{none_due}
use Rattle.node_agenda.proofs.backlog.Backlog.next.Goals as goal

pub returns-in_default : goal.returns-in_default
returns-in_default c = (none_due c.args.now c.args.self.now c.first_due.result c.in_default.is c.first_due.ensures, refl)
