use Rattle.std.proofs.Common.{◌≡◌, ◌++◌, ◌∷◌, [], rules, subst, sym}
use Rattle.wire_narayana.specs.declared.given_link.GivenLink.{GivenLink}
use Rattle.wire_narayana.specs.Links.{AreGiven, IsGiven}
use Rattle.wire_narayana.proofs.GivenLinks.{given_more}
use Rattle.wire_narayana.proofs.given_link.add.Goals as goal

pub returns : goal.returns
returns c = λ text one all.
    let link : GivenLink = record { kind = c.in-Some.kind; url = c.in_ok-url.url } in
    let grown : c.push.new.self.items ≡ c.args.links.now.items ++ link ∷ [] = search rules in
    subst (λ ls. AreGiven text ls) (sym grown) (given_more text c.args.links.now.items link all (subst (λ u. IsGiven text u) (sym c.in_ok-url.ensures.ok) one))
