use Rattle.std.proofs.Common.{[], ◌∷◌, ◌++◌, Bool, cond, ap, ◌∙◌, arith}
use Rattle.script_lines.proofs.LineReadings.{keep_more, keep_same}
use Rattle.script_lines.proofs.line.keep.Goals as goal

pub returns-then-len-lt-KEPT_OF_LINE-clause-kept : goal.returns-then-len-lt-KEPT_OF_LINE-clause-kept
returns-then-len-lt-KEPT_OF_LINE-clause-kept c = λ part e.
    let items = c.args.line.now.items in
    c.push.ensures.items ∙ ap (λ (t : Bool). cond t (items ++ c.args.byte ∷ []) items) (c.push.ensures.succeeds (omega arith))
    ∙ keep_more items part c.args.byte (omega arith) e

pub returns-else-len-lt-KEPT_OF_LINE-clause-kept : goal.returns-else-len-lt-KEPT_OF_LINE-clause-kept
returns-else-len-lt-KEPT_OF_LINE-clause-kept c = λ part e. keep_same c.args.line.now.items part c.args.byte (omega arith) e
