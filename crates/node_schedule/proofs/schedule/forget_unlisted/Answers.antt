use Rattle.std.proofs.Common.{rules, subst, sym, List}
use Rattle.std.proofs.lemmas.Fn.{filter_same}
use Rattle.std.proofs.lemmas.List.Elements.{All-filter}
use Rattle.node_schedule.specs.Named.{AllKept, IsKept}
use Rattle.node_schedule.specs.Slips.{is_remembered}
use Rattle.node_schedule.specs.declared.slip.Slip.{Slip}
use Rattle.node_schedule.proofs.schedule.forget_unlisted.Goals as goal

pub returns-clause-exact : goal.returns-clause-exact
returns-clause-exact c = filter_same _ is_remembered _ (λ x b f' k. search rules) _ _ c.retain.ensures.filtered

pub returns-clause-kept : goal.returns-clause-kept
returns-clause-kept c = λ test kept.
    subst (λ (slips : List Slip). AllKept test slips) (sym (filter_same _ is_remembered _ (λ x b f' k. search rules) _ _ c.retain.ensures.filtered))
    (All-filter is_remembered (IsKept test) c.args.slips.now.items kept)
