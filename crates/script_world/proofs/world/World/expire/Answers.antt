use Rattle.std.proofs.Common.{arith}
use Rattle.script_world.specs.Headline.{IsNode}
use Rattle.script_world.proofs.Happening.{expire_happens}
use Rattle.script_world.proofs.WorldsStand.{on_err, still_world}
use Rattle.script_world.proofs.world.World.expire.Goals as goal

pub returns-clause-step : goal.returns-clause-step
returns-clause-step c s w =
    let is : IsNode s c.args.node = record { some = c.is_a_node.ensures.0; there = omega (arith, c.requires, w.nodes) } in
    rw c.reply_of_expiry.ensures (expire_happens s c.args.self.now c.act_at.new.self c.args.node c.args.id c.in_ok-reply.reply w is c.in_ok-reply.ensures.acted)

pub returns-in_err-reply-clause-err : goal.returns-in_err-reply-clause-err
returns-in_err-reply-clause-err c s w =
    let is : IsNode s c.args.node = record { some = c.is_a_node.ensures.0; there = omega (arith, c.requires, w.nodes) } in
    on_err c.from_residual.result (still_world s c.args.self.now c.act_at.new.self c.args.node w is c.in_err-reply.ensures.err)
