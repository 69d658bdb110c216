use Rattle.std.proofs.Common.{◌++◌, sym, ap, ◌∙◌, append-nil}
use Rattle.wire_narayana.specs.Kinds.{query_text}
use Rattle.wire_narayana.proofs.carried.form_of.Goals as goal

pub returns-clause-own : goal.returns-clause-own
returns-clause-own c = λ own front. (
  λ e. c.in_default.ensures.cases front (e ∙ ap (λ q. front ++ q) (sym c.query.ensures)),
  λ e. c.in_default-strip_suffix.ensures.cases front (e ∙ ap (λ q. front ++ q) (sym c.query-2.ensures)),
)

pub returns-clause-parts : goal.returns-clause-parts
unfolding query_text
returns-clause-parts c = sym (append-nil c.args.link.now)
