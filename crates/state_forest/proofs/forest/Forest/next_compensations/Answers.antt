use Rattle.std.proofs.Common.{◌≡◌, List, subst, sym}
use Rattle.std.proofs.lemmas.Result.{IfOk-weaker}
use Rattle.state_facts.specs.Duties.{is_compensation_due}
use Rattle.state_forest.specs.declared.duties.Due.{Due}
use Rattle.state_forest.specs.Dues.{AreAll, IsDueAt, is_topmost_before}
use Rattle.state_forest.specs.RecordDues.{due_to_compensate}
use Rattle.state_forest.specs.Shape.{found_at}
use Rattle.state_forest.proofs.CompensationsOfAHome.{compensations_settled}
use Rattle.state_forest.proofs.forest.Forest.next_compensations.Goals as goal

pub returns-clause-settled : goal.returns-clause-settled
returns-clause-settled c nodes S whole seated nest numbered stands =
    let home = c.args.self.now.home in
    let records = c.args.self.now.records in
    IfOk-weaker c.compensations.result (λ dues. dues.items ≡ due_to_compensate home (found_at home records) records) (λ dues. AreAll (IsDueAt home S is_compensation_due) (is_topmost_before S) dues.items)
    (λ dues e. subst (λ (ds : List Due). AreAll (IsDueAt home S is_compensation_due) (is_topmost_before S) ds) (sym e) (compensations_settled nodes home S records whole seated nest numbered c.compensations.ensures.order stands))
    c.compensations.ensures.due
