use Rattle.std.proofs.Common.{◌≡◌, ◌∙◌, length, rules, subst}
use Rattle.state_forest.specs.Forests.{AreOf, HomeRecords}
use Rattle.state_forest.proofs.RecordCounts.{held_count}
use Rattle.state_forest.proofs.forest.Forest.len.Goals as goal

pub returns-clause-held : goal.returns-clause-held
returns-clause-held c nodes S stands once =
    let count : c.len.result ≡ length c.args.self.now.records = search rules in
    let order = subst (λ (f : HomeRecords). AreOf f.home f.records) c.self.view_is c.self.invariant in
    count ∙ held_count nodes c.args.self.now.home S c.args.self.now.records order stands once
