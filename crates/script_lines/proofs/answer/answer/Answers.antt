use Rattle.std.proofs.Common.{◌≡◌, [], inr, rules}
use Rattle.std.proofs.lemmas.Result.{IfOk-weaker}
use Rattle.script_lines.proofs.Answering.{bad_answers, done_answers}
use Rattle.script_lines.proofs.answer.answer.Goals as goal

pub returns-in_default-clause-ok : goal.returns-in_default-clause-ok
returns-in_default-clause-ok c S h =
    let some : c.args.line.now ≡ [] → ⊥ = search rules in
    IfOk-weaker c.refusal_line-in_default.result _ _
    (λ text is. (S, bad_answers c.args.nodes S c.args.line.now _ some (inr (rw c.in_default.is at c.in_ok-found.ensures)) is, h))
    c.refusal_line-in_default.ensures

pub returns-clause-ok : goal.returns-clause-ok
returns-clause-ok c S h =
    let some : c.args.line.now ≡ [] → ⊥ = search rules in
    IfOk-weaker c.obey.result _ _
    (λ text d. (
      d.0,
      done_answers c.args.nodes S c.args.line.now _ _ some (c.in-Some.ask, c.if-line-gt-MAX_LINE_BYTES.false, rw c.in-Some.is at c.in_ok-found.ensures, d.1),
      d.2,
    ))
    (c.obey.ensures.ok S h)
