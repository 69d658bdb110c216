use Rattle.std.proofs.Common.{ℕ, ap, arith, length, List}
use Rattle.state_forest.specs.Records.{stamp}
use Rattle.state_forest.proofs.MembersAndStamps.{nodes_length, nodes_step}
use Rattle.state_forest.proofs.reading.stamps.Goals as goal

pub set-requires : goal.set-requires
set-requires c =
    omega (arith, c.in-Ok.ensures.value, ap (λ (xs : List ℕ). length xs) c.nodes.invariant, nodes_length (stamp c.args.facts.now c.args.id) c.args.nodes c.nodes.place (omega (arith, c.nodes-test.true)))

pub nodes-preserved : goal.nodes-preserved
nodes-preserved c =
    nodes_step (stamp c.args.facts.now c.args.id) c.args.nodes c.nodes.place c.in-Ok.node c.stamp.result c.nodes.front c.set.new.self c.nodes-test.true c.in-Ok.ensures.value c.stamp.ensures c.nodes.invariant c.set.ensures
