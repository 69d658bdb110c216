use Rattle.std.proofs.Common.{sym, subst}
use Rattle.std.specs.Str.{IsUtf8}
use Rattle.wire_narayana.proofs.StatusNames.{name_is_text}
use Rattle.wire_narayana.proofs.answers.word_in.Goals as goal

pub returns-in_default : goal.returns-in_default
returns-in_default c = λ word e. c.in_default.ensures.cases.0 (rw c.unquoted.ensures (rw c.without_trailing.ensures (rw c.without_leading.ensures (subst IsUtf8 (sym e) (name_is_text word)))))
