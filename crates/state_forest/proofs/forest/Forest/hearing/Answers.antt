use Rattle.std.proofs.Common.{◌≡◌, ◌∙◌, rules, None, sym}
use Rattle.state_forest.specs.Shape.{found_at}
use Rattle.state_forest.proofs.ToldByChains.{none_hearing}
use Rattle.state_forest.proofs.forest.Forest.hearing.Goals as goal

pub returns-then-is_none : goal.returns-then-is_none
returns-then-is_none c =
    let at = found_at c.args.self.now.home c.args.self.now.records in
    let r = c.args.kept.now in
    let none : c.first_owed.result ≡ None = search rules in
    none_hearing at r c.args.lra r.members (sym c.first_owed.ensures ∙ none)
