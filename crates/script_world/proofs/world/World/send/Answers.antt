use Rattle.std.proofs.Common.{◌≡◌, ◌+◌, ◌++◌, [], ◌∷◌, ap, sym, subst, arith, length}
use Rattle.std.proofs.lemmas.Result.{IfOk-weaker}
use Rattle.script_world.specs.declared.event.Event.TheVariants.{Send}
use Rattle.script_world.specs.declared.event.EventReply.{EventReply}
use Rattle.script_world.specs.declared.event.EventReply.TheVariants.{Sent}
use Rattle.script_world.specs.Machines.{Happens, Machine}
use Rattle.script_world.proofs.Happening.{node_there, send_happens}
use Rattle.script_world.proofs.world.World.send.Goals as goal

pub returns-in-Ok-clause-step : goal.returns-in-Ok-clause-step
returns-in-Ok-clause-step c s w =
    let is = node_there s c.args.self.now c.args.node w c.has.ensures.some (sym c.if-not-has.ensures.value) in
    let count : length c.self.inside.replicas.items ≡ length c.args.self.now.replicas = ap (λ (m : Machine). length m.replicas) c.self.view_is in
    let nodes : length c.args.base ≡ length c.args.self.now.replicas = omega (arith, c.nodes.ensures.value, c.if-nodes-len.false, c.len.ensures, count, c.self.inside.replicas.ok) in
    let sent = c.in-Ok.ensures.sent s w in
    let m : Machine = record { replicas = c.args.self.now.replicas; sent = c.args.self.now.sent ++ c.in-Ok.bytes.items ∷ [] } in
    IfOk-weaker c.post.result _ _
    (λ reply posted.
    subst (λ (r : EventReply). Happens s (Send c.args.node c.args.base c.args.version) r c.post.new.self) (sym posted.0)
    (subst (λ (x : Machine). Happens s (Send c.args.node c.args.base c.args.version) (Sent (length c.args.self.now.sent + 1)) x) (sym posted.1)
    (send_happens s c.args.self.now c.args.node c.args.base c.args.version c.in-Ok.bytes.items w is nodes sent.0 sent.1 sent.2)))
    c.post.ensures.posted
