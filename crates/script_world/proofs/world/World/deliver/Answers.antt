use Rattle.std.proofs.Common.{◌≤◌, sym, arith, length, rules}
use Rattle.std.proofs.lemmas.Result.{IfOk-weaker, on_err_weaker}
use Rattle.script_world.proofs.Delivering.{delivered_world}
use Rattle.script_world.proofs.Happening.{node_there}
use Rattle.script_world.proofs.WorldsStand.{still_world}
use Rattle.script_world.proofs.world.World.deliver.Goals as goal

pub returns-clause-step : goal.returns-clause-step
returns-clause-step c s w =
    let is = node_there s c.args.self.now c.args.node w c.has.ensures.some (sym c.if-not-has.ensures.value) in
    let some : 1 ≤ c.args.frame = search rules in
    let last : c.args.frame ≤ length c.args.self.now.sent = search rules in
    IfOk-weaker c.deliver_at.result _ _
    (λ reply taken. delivered_world s c.args.self.now c.deliver_at.new.self c.args.frame c.args.node c.args.kept reply w is some (omega (arith, some, last)) taken)
    c.deliver_at.ensures.taken

pub returns-clause-err : goal.returns-clause-err
returns-clause-err c s w =
    let is = node_there s c.args.self.now c.args.node w c.has.ensures.some (sym c.if-not-has.ensures.value) in
    on_err_weaker c.deliver_at.result (λ same. still_world s c.args.self.now c.deliver_at.new.self c.args.node w is same) c.deliver_at.ensures.err
