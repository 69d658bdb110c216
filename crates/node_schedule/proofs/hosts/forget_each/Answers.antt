use Rattle.std.proofs.Common.{rules}
use Rattle.std.proofs.lemmas.Fn.{filter_same}
use Rattle.node_schedule.specs.Turns.{is_kept}
use Rattle.node_schedule.proofs.hosts.forget_each.Goals as goal

pub returns : goal.returns
returns c = filter_same _ is_kept _ (λ x b f' k. search rules) _ _ c.retain.ensures.filtered
