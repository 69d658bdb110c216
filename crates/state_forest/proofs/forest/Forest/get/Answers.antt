use Rattle.std.proofs.Common.{sym, arith, subst}
use Rattle.std.proofs.lemmas.Bool.Decides.{nat_tests}
use Rattle.state_forest.specs.Forests.{AreOf, HomeRecords}
use Rattle.state_forest.proofs.Places.{other_home}
use Rattle.state_forest.proofs.forest.Forest.get.Goals as goal

pub returns-else-eq-clause-found : goal.returns-else-eq-clause-found
returns-else-eq-clause-found c =
    let kept : AreOf c.args.self.now.home c.args.self.now.records = subst (λ (f : HomeRecords). AreOf f.home f.records) c.self.view_is c.self.invariant in
    let other = c.if-eq.ensures in
    let value = c.home.ensures.value in
    let mine = c.home-2.ensures in
    sym (other_home c.args.id c.args.self.now.home c.args.self.now.records kept.homes (λ same. grind (arith, nat_tests, other, value, mine, same)))
