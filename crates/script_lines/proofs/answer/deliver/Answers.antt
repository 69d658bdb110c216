use Rattle.std.proofs.lemmas.Result.{IfOk-weaker}
use Rattle.script_lines.proofs.answer.deliver.Goals as goal

pub returns-clause-ok : goal.returns-clause-ok
returns-clause-ok c s w =
    IfOk-weaker c.happen.result _ _ (λ text h. (h.0, (c.bytes_coming-kept.result, c.bytes_coming-kept.ensures s w, h.1), h.2)) (c.happen.ensures.ok s w)
