use Rattle.node_agenda.specs.Tasks.{has}
use Rattle.node_agenda.proofs.Firsts.{Tried}
use Rattle.node_agenda.proofs.state.MailboxState.next_kind.Given as goal

-- so many kinds after the last one have no task
abbrev pub invariant-loop-turn : goal.invariant-loop-turn
invariant-loop-turn l = Tried l.self.last (has l.now l.self) l.turn l.kind
