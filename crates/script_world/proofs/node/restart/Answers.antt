use Rattle.std.proofs.Common.{◌≡◌, refl, rules}
use Rattle.state_replica.specs.Replicas.{view_of}
use Rattle.script_world.specs.declared.event.EventReply.TheVariants.{Took}
use Rattle.script_world.proofs.Restarting.{retaken}
use Rattle.script_world.proofs.node.restart.Goals as goal

pub returns-then-ne-clause-same : goal.returns-then-ne-clause-same
returns-then-ne-clause-same c h v lawful closed stands front =
    let took = retaken c.zero.result c.in-Ok.bytes.items c.deref.result.now c.front.result (view_of c.args.replica.now) (view_of c.in-Ok-new.fresh) (view_of c.take_bytes.new.replica) c.nodes-nodes.result c.len.result _ c.in_ok-reply.reply
    c.in-Ok.ensures.sent c.nodes-nodes.ensures.value c.front.ensures c.zero.ensures c.in-Ok-new.ensures.empty c.deref.ensures.value c.deref.ensures.len c.len.ensures c.in_ok-reply.ensures.taken h v lawful closed stands front in
    let other : c.in_ok-reply.reply ≡ Took → ⊥ = search rules in
    absurd (other took.0)

pub returns-clause-same : goal.returns-clause-same
returns-clause-same c h v lawful closed stands front = (
  refl,
  (retaken c.zero.result c.in-Ok.bytes.items c.deref.result.now c.front.result (view_of c.args.replica.now) (view_of c.in-Ok-new.fresh) (view_of c.take_bytes.new.replica) c.nodes-nodes.result c.len.result _ c.in_ok-reply.reply
      c.in-Ok.ensures.sent c.nodes-nodes.ensures.value c.front.ensures c.zero.ensures c.in-Ok-new.ensures.empty c.deref.ensures.value c.deref.ensures.len c.len.ensures c.in_ok-reply.ensures.taken h v lawful closed stands front).1,
)
