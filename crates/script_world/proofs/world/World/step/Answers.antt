use Rattle.std.proofs.lemmas.Result.{IfOk-weaker}
use Rattle.script_world.proofs.Converging.{steps_to}
use Rattle.script_world.proofs.world.World.step.Goals as goal

pub returns-clause-headline : goal.returns-clause-headline
returns-clause-headline c first s led w =
    IfOk-weaker c.happen.result _ _ (λ reply h. steps_to first s c.args.event reply c.happen.new.self led h) (c.happen.ensures.step s w)
