use Rattle.std.proofs.Common.{◌≡◌, ◌∙◌, rules, None, ap, slice_get, sym}
use Rattle.state_forest.specs.declared.duties.Owing.{Owing}
use Rattle.state_forest.specs.Owings.{owed_by}
use Rattle.state_forest.specs.Shape.{found_at}
use Rattle.state_forest.proofs.ToldByChains.{none_forgetting}
use Rattle.state_forest.proofs.forest.Forest.forgetting_since.Goals as goal

pub returns-then-is_none-clause-owed : goal.returns-then-is_none-clause-owed
returns-then-is_none-clause-owed c =
    let at = found_at c.args.self.now.home c.args.self.now.records in
    let r = c.args.kept.now in
    let none : c.first_owed.result ≡ None = search rules in
    none_forgetting at r c.args.lra r.members (sym (ap (λ (o : Owing). slice_get (owed_by o c.args.lra 1 r.members) 0) c.forgetting-owing.ensures) ∙ sym c.first_owed.ensures ∙ none)
