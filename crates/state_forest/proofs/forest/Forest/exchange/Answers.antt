use Rattle.std.proofs.Common.{sym, ap, subst, ◌∙◌, is_some}
use Rattle.state_forest.specs.Forests.{AreOf, HomeRecords}
use Rattle.state_forest.proofs.RecordsReplaced.{found_at}
use Rattle.state_forest.proofs.Puts.{put_are_of}
use Rattle.state_forest.proofs.forest.Forest.exchange.Goals as goal

pub exchange-requires-clause-there : goal.exchange-requires-clause-there
exchange-requires-clause-there c =
    ap is_some (sym (found_at c.self.inside.home c.self.inside.records.items _ c.args.self.now c.args.next c.self.view_is c.self.invariant c.requires.home)) ∙ c.requires.there

pub invariant_of-self : goal.invariant_of-self
invariant_of-self c =
    subst (AreOf c.self.inside.home) (sym c.exchange.ensures.items)
    (put_are_of c.self.inside.home c.args.next c.self.inside.records.items (c.requires.home ∙ sym (ap (λ (h : HomeRecords). h.home) c.self.view_is)) c.self.invariant)

pub returns-clause-back : goal.returns-clause-back
returns-clause-back c =
    found_at c.self.inside.home c.self.inside.records.items _ c.args.self.now c.args.next c.self.view_is c.self.invariant c.requires.home ∙ c.exchange.ensures.back
