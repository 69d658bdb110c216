use Rattle.std.proofs.Common.{rules}
use Rattle.std.proofs.lemmas.Fn.{filter_same}
use Rattle.node_agenda.specs.Since.{is_unheard}
use Rattle.node_agenda.proofs.heard_since.leave_out.Goals as goal

pub returns : goal.returns
returns c = filter_same _ (is_unheard c.args.heard.now) _ (λ x b f' k. search rules) _ _ c.retain.ensures.filtered
