use Rattle.std.proofs.lemmas.Result.{IfOk-weaker, on_err_weaker}
use Rattle.script_lines.proofs.Steps.{nothing_happened}
use Rattle.script_lines.proofs.answer.happen.Goals as goal

pub returns-clause-ok : goal.returns-clause-ok
returns-clause-ok c s w =
    let happened = c.in_ok-reply.ensures.step s w in
    IfOk-weaker c.tell.result _ _ (λ text is. (happened.0, (c.in_ok-reply.reply, happened.1, is), happened.2)) c.tell.ensures.ok

pub returns-clause-err : goal.returns-clause-err
returns-clause-err c s w =
    on_err_weaker c.tell.result (nothing_happened s c.args.event c.in_ok-reply.reply c.step.new.self (c.in_ok-reply.ensures.step s w)) c.tell.ensures.err
