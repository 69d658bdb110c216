use Rattle.std.proofs.Common.{not, rules}
use Rattle.std.proofs.lemmas.Fn.{filter_same}
use Rattle.node_schedule.specs.Slips.{same_called}
use Rattle.node_schedule.proofs.slip.forget_each.Goals as goal

pub returns : goal.returns
returns c = filter_same _ (λ slip. not (same_called slip.who c.args.who.now)) _ (λ x b f' k. search rules) _ _ c.retain.ensures.filtered
