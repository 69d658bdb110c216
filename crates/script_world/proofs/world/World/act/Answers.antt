use Rattle.std.proofs.Common.{sym}
use Rattle.script_world.proofs.Happening.{act_happens, node_there}
use Rattle.script_world.proofs.WorldsStand.{on_err, still_world}
use Rattle.script_world.proofs.world.World.act.Goals as goal

pub returns-clause-step : goal.returns-clause-step
returns-clause-step c s w =
    let is = node_there s c.args.self.now c.args.node w c.has.ensures.some (sym c.if-not-has.ensures.value) in
    act_happens s c.args.self.now c.act_at.new.self c.args.node c.args.command c.in_ok-reply.reply w is c.in_ok-reply.ensures.acted

pub returns-in_err-reply-clause-err : goal.returns-in_err-reply-clause-err
returns-in_err-reply-clause-err c s w =
    let is = node_there s c.args.self.now c.args.node w c.has.ensures.some (sym c.if-not-has.ensures.value) in
    on_err c.from_residual.result (still_world s c.args.self.now c.act_at.new.self c.args.node w is c.in_err-reply.ensures.err)
