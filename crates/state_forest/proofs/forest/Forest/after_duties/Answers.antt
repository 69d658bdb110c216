use Rattle.std.proofs.Common.{◌≡◌, ◌∙◌, List, flat_map, subst, sym}
use Rattle.std.proofs.lemmas.Result.{IfOk-weaker}
use Rattle.state_facts.specs.Duties.{is_after_duty}
use Rattle.state_forest.specs.declared.duties.Due.{Due}
use Rattle.state_forest.specs.declared.duties.DutyKind.TheVariants.{Tell}
use Rattle.state_forest.specs.Dues.{AreAll, IsDueAt, is_before}
use Rattle.state_forest.specs.Owings.{owed_of}
use Rattle.state_forest.specs.RecordDues.{due_to_hear}
use Rattle.state_forest.specs.Shape.{found_at}
use Rattle.state_forest.proofs.DutiesOfAHome.{hearings_settled, owed_at_seats}
use Rattle.state_forest.proofs.forest.Forest.after_duties.Goals as goal

pub returns-clause-says : goal.returns-clause-says
returns-clause-says c =
    let home = c.args.self.now.home in
    let records = c.args.self.now.records in
    IfOk-weaker c.duties.result (λ dues. dues.items ≡ flat_map (owed_of Tell home (found_at home records)) records) (λ dues. dues.items ≡ due_to_hear (found_at home records) records)
    (λ dues e. e ∙ owed_at_seats Tell home records c.duties.ensures.order) c.duties.ensures.owed

pub returns-clause-settled : goal.returns-clause-settled
returns-clause-settled c nodes S whole seated nest numbered stands =
    let home = c.args.self.now.home in
    let records = c.args.self.now.records in
    IfOk-weaker c.duties.result (λ dues. dues.items ≡ due_to_hear (found_at home records) records) (λ dues. AreAll (IsDueAt home S is_after_duty) is_before dues.items)
    (λ dues e. subst (λ (ds : List Due). AreAll (IsDueAt home S is_after_duty) is_before ds) (sym e) (hearings_settled nodes home S records whole seated nest numbered c.duties.ensures.order stands))
    (returns-clause-says c)
