use Rattle.std.proofs.Common.{◌≡◌, ◌∙◌, ap, rules}
use Rattle.state_facts.specs.declared.refusal.Refusal.TheVariants.{NoMemory}
use Rattle.state_replica.specs.Replicas.{view_of}
use Rattle.script_world.proofs.Acting.{acted_not, acted_with}
use Rattle.script_world.proofs.node.act.Goals as goal
use Rattle.theory_history.specs.Changes.{with_patch}

pub returns-in-Ok-clause-acted : goal.returns-in-Ok-clause-acted
returns-in-Ok-clause-acted c S settled stands =
    let is = c.enter.ensures.view ∙ ap (with_patch c.in-Ok.prepared.patch) c.in-Ok.ensures.view in
    rw c.enter.ensures.reply
    (acted_with S (view_of c.args.replica.now) (view_of c.enter.new.replica) c.args.me c.args.command c.in-Ok.prepared (c.in-Ok.ensures.prepared S settled stands) is)

pub returns-else-eq-clause-acted : goal.returns-else-eq-clause-acted
returns-else-eq-clause-acted c S settled stands =
    let other : c.in-Err.refusal ≡ NoMemory → ⊥ = search rules in
    acted_not S (view_of c.args.replica.now) (view_of c.prepare.new.self) c.args.me c.args.command c.in-Err.refusal (c.in-Err.ensures.prepared S settled stands) other c.in-Err.ensures.view
