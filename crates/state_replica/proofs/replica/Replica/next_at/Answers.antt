use Rattle.std.proofs.Common.{sym}
use Rattle.theory_history.specs.Readings.{by_view}
use Rattle.state_replica.specs.Replicas.{view_of}
use Rattle.state_replica.proofs.Paging.{next_here, next_nowhere, told_here}
use Rattle.state_replica.proofs.replica.Replica.next_at.Goals as goal

pub returns-in-Some : goal.returns-in-Some
returns-in-Some c =
    next_here (by_view (view_of c.args.self.now)) c.args.home c.args.num c.in-Some.records.now.records c.after.result c.first_of.result
    (told_here c.args.self.now c.args.home c.in-Some.records.now c.in-Some.ensures.state c.in-Some.ensures.some (sym c.in-Some.ensures.place))
    c.after.ensures c.first_of.ensures.none c.first_of.ensures.first

pub returns-in-None : goal.returns-in-None
returns-in-None c = next_nowhere c.args.self.now c.args.home c.args.num (sym c.in-None.ensures.place)
