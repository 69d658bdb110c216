use Rattle.std.proofs.Common.{sym}
use Rattle.std.proofs.lemmas.Result.{IfOk-weaker}
use Rattle.script_world.proofs.Happening.{node_there, tick_happens}
use Rattle.script_world.proofs.world.World.tick.Goals as goal

pub returns-in-Some-clause-step : goal.returns-in-Some-clause-step
returns-in-Some-clause-step c s w =
    let is = node_there s c.args.self.now c.args.node w c.has.ensures.some (sym c.if-not-has.ensures.value) in
    IfOk-weaker c.expire.result _ _ (λ reply e. tick_happens s c.expire.new.self c.args.node c.args.now c.in-Some.id reply is (c.in-Some.ensures s w) e) (c.expire.ensures.step s w)
