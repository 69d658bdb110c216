use Rattle.std.proofs.Common.{◌∙◌, ◌++◌, List, ap, filter_map, subst, sym}
use Rattle.state_ids.specs.declared.outcome.Act.TheVariants.{Complete as CompleteAct, Compensate as CompensateAct}
use Rattle.state_forest.specs.Dues.{AreAll}
use Rattle.state_replica.specs.Replicas.{view_of}
use Rattle.state_replica.specs.ViewDues.{compensations_of, completions_of, forgets_of, hearings_of}
use Rattle.wire_callbacks.specs.declared.duty.Duty.{Duty}
use Rattle.wire_callbacks.specs.declared.duty.Purpose.TheVariants.{Call, Release, Tell}
use Rattle.wire_callbacks.specs.CallDuties.{IsDuty, comes_first}
use Rattle.wire_callbacks.specs.ViewDuties.{duty_by}
use Rattle.wire_callbacks.proofs.Picked.{four_added}
use Rattle.wire_callbacks.proofs.Viewed.{all_of_view}
use Rattle.wire_callbacks.proofs.duty.pick.Goals as goal

pub returns-clause-next : goal.returns-clause-next
returns-clause-next c =
    let view = view_of c.args.replica.now in
    let me = c.args.me in
    let first = ap (filter_map (duty_by view (Call CompleteAct))) (c.deref.ensures.value ∙ c.in_ok-dues.ensures.says) in
    let second = ap (filter_map (duty_by view (Call CompensateAct))) (c.deref-2.ensures.value ∙ c.in_ok-dues-2.ensures.says) in
    let third = ap (filter_map (duty_by view Release)) (c.deref-3.ensures.value ∙ c.in_ok-dues-3.ensures.says) in
    let fourth = ap (filter_map (duty_by view Tell)) (c.deref-4.ensures.value ∙ c.in_ok-dues-4.ensures.says) in
    four_added c.new-list.result.items c.add.new.duties.items c.add-2.new.duties.items c.add-3.new.duties.items c.add-4.new.duties.items
    (filter_map (duty_by view (Call CompleteAct)) (completions_of view me)) (filter_map (duty_by view (Call CompensateAct)) (compensations_of view me)) (filter_map (duty_by view Release) (forgets_of view me)) (filter_map (duty_by view Tell) (hearings_of view me))
    c.new-list.ensures.items
    (c.in_ok-add.ensures ∙ ap (λ (ds : List Duty). c.new-list.result.items ++ ds) first)
    (c.in_ok-add-2.ensures ∙ ap (λ (ds : List Duty). c.add.new.duties.items ++ ds) second)
    (c.in_ok-add-3.ensures ∙ ap (λ (ds : List Duty). c.add-2.new.duties.items ++ ds) third)
    (c.in_ok-add-4.ensures ∙ ap (λ (ds : List Duty). c.add-3.new.duties.items ++ ds) fourth)

pub returns-clause-all : goal.returns-clause-all
returns-clause-all c S settled stands =
    subst (λ (ds : List Duty). AreAll (IsDuty c.args.me S) (comes_first S) ds) (sym (returns-clause-next c))
    (all_of_view S (view_of c.args.replica.now) c.args.me settled stands c.is_a_node.ensures.0 c.requires)
