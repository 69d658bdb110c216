use Rattle.std.proofs.Common.{◌≡◌, ◌∙◌, ◌-◌, ap, sym, length, subst, ℕ, IfOk, List, Some, slice_get}
use Rattle.std.proofs.lemmas.Result.{IfOk-weaker}
use Rattle.state_facts.specs.Sets.{IsNumbered}
use Rattle.state_facts.specs.Duties.{is_after_duty}
use Rattle.state_forest.specs.declared.record.Record.{Record}
use Rattle.state_forest.specs.Dues.{AreAll, IsDueAt, is_before}
use Rattle.state_forest.specs.RecordDues.{due_to_hear}
use Rattle.state_forest.specs.Shape.{found_at}
use Rattle.state_forest.proofs.Bools.{all_from}
use Rattle.theory_history.proofs.Covered.{nested_settled}
use Rattle.state_replica.specs.Replicas.{view_of}
use Rattle.state_replica.specs.ViewDues.{hearings_of}
use Rattle.state_replica.proofs.Homes.{home_records, stands_at_home}
use Rattle.state_replica.proofs.replica.Replica.after_duties.Goals as goal

pub returns-in-Some-clause-settled : goal.returns-in-Some-clause-settled
returns-in-Some-clause-settled c S settled stands =
    subst (λ (home : ℕ). IfOk c.after_duties.result (λ dues. AreAll (IsDueAt home S is_after_duty) is_before dues.items)) c.in-Some.ensures.found
    (c.after_duties.ensures.settled (length c.args.self.now.front) S settled.whole settled.seated (nested_settled S settled) (all_from IsNumbered S settled.numbered)
    (stands_at_home c.args.self.now S c.args.me c.in-Some.records.now c.in-Some.ensures.state stands c.in-Some.ensures.some c.in-Some.ensures.found (sym c.in-Some.ensures.place)))

pub returns-in-Some-clause-says : goal.returns-in-Some-clause-says
returns-in-Some-clause-says c =
    let found = c.in-Some.records.now in
    let here : slice_get c.args.self.now.homes (c.args.me - 1) ≡ Some found = sym c.in-Some.ensures.place in
    let same = ap (λ (home : ℕ). let rs = found.records in due_to_hear (found_at home rs) rs) c.in-Some.ensures.found ∙ ap (λ (rs : List Record). let home = c.args.me in due_to_hear (found_at home rs) rs) (sym (home_records c.args.self.now c.args.me found here)) in
    IfOk-weaker c.after_duties.result (λ dues. dues.items ≡ (let home = found.home in let rs = found.records in due_to_hear (found_at home rs) rs)) (λ dues. dues.items ≡ hearings_of (view_of c.args.self.now) c.args.me)
    (λ dues e. e ∙ same) c.after_duties.ensures.says
