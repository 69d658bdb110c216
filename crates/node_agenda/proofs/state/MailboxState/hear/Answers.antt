use Rattle.std.proofs.Common.{rules, subst, sym, Option, Result, ◌≡◌}
use Rattle.node_inbox.specs.Letters.{Said}
use Rattle.node_inbox.specs.declared.letter.Unheard.{Unheard}
use Rattle.node_agenda.specs.Hearing.{HearsOf, IsHeard}
use Rattle.node_agenda.specs.Mail.{Mail}
use Rattle.node_agenda.proofs.state.MailboxState.hear.Goals as goal

pub returns-in-Ok : goal.returns-in-Ok
returns-in-Ok c =
    let heard : IsHeard c.args.time c.args.now c.in-Ok.letter c.args.self.now c.put_letter.new.self c.heard-plight.result = record {
      calls = c.heard-plight.new.self;
      found = search rules;
      put = search rules;
    } in
    subst (λ (came : Result Said Unheard). HearsOf c.args.time c.args.now came c.args.self.now c.put_letter.new.self c.heard-plight.result) (sym c.in-Ok.is) heard
