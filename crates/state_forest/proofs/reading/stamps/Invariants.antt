use Rattle.std.proofs.Common.{◌≡◌}
use Rattle.state_forest.specs.Records.{stamp}
use Rattle.state_forest.proofs.MembersAndStamps.{first_nodes}
use Rattle.state_forest.proofs.reading.stamps.Given as goal

-- the nodes so far are counted in the front
abbrev pub invariant-nodes : goal.invariant-nodes
invariant-nodes l = l.front ≡ first_nodes (stamp l.facts l.id) l.fn.nodes l.place
