use Rattle.std.proofs.Common.{not, rules}
use Rattle.std.proofs.lemmas.Fn.{filter_same}
use Rattle.state_ids.specs.Ids.{same_id}
use Rattle.node_agenda.specs.Sweeps.{Root}
use Rattle.node_agenda.proofs.sweeping.forget.Goals as goal

pub returns : goal.returns
returns c = filter_same _ (λ (root : Root). not (same_id root.id c.args.id)) _ (λ x b f' k. search rules) _ _ c.retain.ensures.filtered
