use Rattle.std.proofs.Common.{◌∙◌, List, ap, sym, length, subst, ℕ}
use Rattle.state_facts.specs.Sets.{IsNumbered}
use Rattle.state_forest.specs.Overdue.{IsLeastOverdue}
use Rattle.state_forest.specs.declared.record.Record.{Record}
use Rattle.state_forest.specs.Said.{first_overdue}
use Rattle.state_forest.specs.Shape.{found_at}
use Rattle.state_forest.proofs.Bools.{all_from}
use Rattle.state_replica.proofs.Homes.{home_records, stands_at_home}
use Rattle.theory_history.proofs.Covered.{nested_settled}
use Rattle.state_replica.proofs.replica.Replica.expire.Goals as goal

pub returns-in-Some-clause-settled : goal.returns-in-Some-clause-settled
returns-in-Some-clause-settled c S settled stands =
    subst (λ (home : ℕ). IsLeastOverdue S home c.args.now c.overdue.result) c.in-Some.ensures.found
    (c.overdue.ensures.answer (length c.args.self.now.front) S settled.whole (nested_settled S settled) (all_from IsNumbered S settled.numbered)
    (stands_at_home c.args.self.now S c.args.me c.in-Some.records.now c.in-Some.ensures.state stands c.in-Some.ensures.some c.in-Some.ensures.found (sym c.in-Some.ensures.place)))

pub returns-in-Some-clause-next : goal.returns-in-Some-clause-next
returns-in-Some-clause-next c =
    c.overdue.ensures.says
    ∙ ap (λ (home : ℕ). first_overdue home (found_at home c.in-Some.records.now.records) c.args.now c.in-Some.records.now.records) c.in-Some.ensures.found
    ∙ ap (λ (rs : List Record). first_overdue c.args.me (found_at c.args.me rs) c.args.now rs) (sym (home_records c.args.self.now c.args.me c.in-Some.records.now (sym c.in-Some.ensures.place)))
