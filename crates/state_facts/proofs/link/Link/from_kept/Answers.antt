use Rattle.std.proofs.Common.{sym, ◌∙◌}
use Rattle.std.proofs.lemmas.Slice.Eq.{bytes_eq-Decides}
use Rattle.state_facts.proofs.KeptBytes.{no_text, one_kept}
use Rattle.state_facts.proofs.link.Link.from_kept.Goals as goal

pub returns-in_default : goal.returns-in_default
returns-in_default c = no_text c.args.text.now c.in_default.ensures.cases.0

pub returns-in-Ok-read : goal.returns-in-Ok-read
returns-in-Ok-read c =
    let same = (bytes_eq-Decides c.as_str.result.now c.in-Ok.text.now).0 (sym c.eq.ensures ∙ c.if-eq.true) in
    one_kept c.args.text.now c.in-Ok.text.now c.in-Ok-read.link c.in-Ok.ensures.cases.0 c.in-Ok.ensures.cases.1 c.in-Ok-read.ensures.answer (sym c.as_str.ensures.text ∙ same)
