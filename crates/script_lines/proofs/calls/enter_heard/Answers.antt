use Rattle.std.proofs.Common.{ap, ◌∙◌}
use Rattle.std.proofs.lemmas.Result.{IfOk-weaker, on_err_weaker}
use Rattle.script_world.specs.declared.event.EventReply.{EventReply}
use Rattle.script_lines.specs.Scripts.{heard_reply_line}
use Rattle.script_lines.proofs.Steps.{acted, nothing_happened}
use Rattle.script_world.specs.declared.event.Event.TheVariants.{Act as ActEvent}
use Rattle.script_lines.proofs.calls.enter_heard.Goals as goal

pub returns-clause-err : goal.returns-clause-err
returns-clause-err c s w =
    on_err_weaker c.tell_heard.result
    (nothing_happened s (ActEvent c.args.node c.in-Some.command) c.in_ok-reply.reply c.step.new.self (c.in_ok-reply.ensures.step s w)) c.tell_heard.ensures.err

pub returns-clause-ok : goal.returns-clause-ok
returns-clause-ok c s w =
    let acted = acted s c.args.world.now c.step.new.self c.args.node c.in-Some.command c.in_ok-reply.reply w c.requires (c.in_ok-reply.ensures.step s w) in
    rw c.in-Some.is (IfOk-weaker c.tell_heard.result _ _ (λ text is. is ∙ ap (λ (r : EventReply). heard_reply_line c.args.heard r) acted.0) c.tell_heard.ensures.ok)

pub returns-clause-after : goal.returns-clause-after
returns-clause-after c s w =
    let acted = acted s c.args.world.now c.step.new.self c.args.node c.in-Some.command c.in_ok-reply.reply w c.requires (c.in_ok-reply.ensures.step s w) in
    rw c.in-Some.is (IfOk-weaker c.tell_heard.result _ _ (λ text is. acted.1) c.tell_heard.ensures.ok)
