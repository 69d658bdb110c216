use Rattle.std.proofs.Common.{sym}
use Rattle.std.proofs.lemmas.Result.{IfOk-weaker, on_err_weaker}
use Rattle.script_world.proofs.Happening.{node_there, restart_happens}
use Rattle.script_world.proofs.WorldsStand.{still_world}
use Rattle.script_world.proofs.world.World.restart.Goals as goal

pub returns-clause-step : goal.returns-clause-step
returns-clause-step c s w =
    let is = node_there s c.args.self.now c.args.node w c.has.ensures.some (sym c.if-not-has.ensures.value) in
    IfOk-weaker c.restart_at.result _ _
    (λ reply same. restart_happens s c.args.self.now c.restart_at.new.self c.args.node reply w is same)
    c.restart_at.ensures.same

pub returns-clause-err : goal.returns-clause-err
returns-clause-err c s w =
    let is = node_there s c.args.self.now c.args.node w c.has.ensures.some (sym c.if-not-has.ensures.value) in
    on_err_weaker c.restart_at.result (λ same. still_world s c.args.self.now c.restart_at.new.self c.args.node w is same) c.restart_at.ensures.err
