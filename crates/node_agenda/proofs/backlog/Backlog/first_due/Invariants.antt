use Rattle.node_agenda.specs.Backlogs.{is_due_of}
use Rattle.node_agenda.proofs.Circle.{Tried}
use Rattle.node_agenda.proofs.backlog.Backlog.first_due.Given as goal

-- this many nodes behind the last one have no telling that is due
abbrev pub invariant-loop-step : goal.invariant-loop-step
invariant-loop-step l = Tried l.self.last (is_due_of l.now l.self) l.step l.node
