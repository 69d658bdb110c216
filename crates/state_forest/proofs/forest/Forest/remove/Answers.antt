use Rattle.std.proofs.Common.{◌≡◌, ◌==◌, sym, ap, subst, ◌∙◌, arith, filter}
use mathlib.Core.Bool.{not}
use Rattle.std.proofs.lemmas.Bool.Decides.{nat_tests}
use Rattle.state_forest.specs.Forests.{AreOf, HomeRecords, is_of}
use Rattle.state_forest.proofs.Removals.{filter_are_of, filter_other, filter_own}
use Rattle.state_forest.proofs.forest.Forest.remove.Goals as goal

pub invariant_of-self : goal.invariant_of-self
invariant_of-self c =
    subst (AreOf c.self.inside.home) (sym c.remove.ensures.items)
    (filter_are_of _ c.self.inside.home c.self.inside.records.items c.self.invariant)

pub returns-then-eq-clause-records : goal.returns-then-eq-clause-records
returns-then-eq-clause-records c =
    let equal = c.if-eq.ensures in
    let value = c.home.ensures.value in
    let number = c.num.ensures.value in
    let at : c.args.id.home ≡ c.self.inside.home = grind (arith, nat_tests, equal, value) in
    c.remove.ensures.items
    ∙ ap (λ n. filter (λ r. not (r.num == n)) c.self.inside.records.items) number
    ∙ filter_own c.args.id c.self.inside.home c.self.inside.records.items at c.self.invariant.homes
    ∙ ap (λ (h : HomeRecords). filter (λ r. not (is_of c.args.id r)) h.records) c.self.view_is

pub returns-else-eq-clause-records : goal.returns-else-eq-clause-records
returns-else-eq-clause-records c =
    let other = c.if-eq.ensures in
    let value = c.home.ensures.value in
    sym (ap (λ (h : HomeRecords). h.records) c.self.view_is)
    ∙ filter_other c.args.id c.self.inside.home c.self.inside.records.items (λ same. grind (arith, nat_tests, other, value, same)) c.self.invariant.homes
    ∙ ap (λ (h : HomeRecords). filter (λ r. not (is_of c.args.id r)) h.records) c.self.view_is
