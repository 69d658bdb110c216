use Rattle.std.proofs.Common.{rules}
use Rattle.std.proofs.lemmas.Fn.{filter_same}
use Rattle.node_agenda.specs.Sweeps.{is_found}
use Rattle.node_agenda.proofs.sweeping.forget_missing.Goals as goal

pub returns : goal.returns
returns c = filter_same _ is_found _ (λ x b f' k. search rules) _ _ c.retain.ensures.filtered
