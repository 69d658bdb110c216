use Rattle.std.proofs.Common.{◌≡◌, rules}
use Rattle.state_facts.specs.declared.refusal.Refusal.TheVariants.{NoMemory}
use Rattle.state_replica.specs.Replicas.{view_of}
use Rattle.script_world.proofs.FramesNotTaken.{refused_frame}
use Rattle.script_world.proofs.node.take_frame.Goals as goal

pub returns-else-eq-clause-taken : goal.returns-else-eq-clause-taken
returns-else-eq-clause-taken c =
    let other : c.in-Err.refusal ≡ NoMemory → ⊥ = search rules in
    refused_frame (view_of c.args.replica.now) (view_of c.prepare.new.replica) c.args.delta c.in-Err.refusal c.in-Err.ensures.gap c.in-Err.ensures.union other c.in-Err.ensures.view
