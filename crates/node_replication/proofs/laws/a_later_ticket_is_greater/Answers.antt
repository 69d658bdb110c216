use Rattle.std.proofs.Common.{refl}
use Rattle.node_replication.specs.Steps.{at_start}
use Rattle.node_replication.proofs.Tickets.{in_order}
use Rattle.node_replication.proofs.laws.a_later_ticket_is_greater.Goals as goal

pub returns : goal.returns
returns c node between earlier one later = in_order between earlier one later (at_start node) refl
