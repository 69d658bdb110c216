use Rattle.std.proofs.Common.{List, rules, subst}
use Rattle.wire_callbacks.specs.declared.duty.Duty.{Duty}
use Rattle.node_agenda.specs.Hearing.{Lists}
use Rattle.node_agenda.specs.Mail.{Mail}
use Rattle.node_agenda.specs.Since.{unheard}
use Rattle.node_agenda.proofs.state.MailboxState.put_unheard.Goals as goal

pub returns-then-not-is_whole : goal.returns-then-not-is_whole
returns-then-not-is_whole c = record {
  is_whole = c.put_all-is_whole.result;
  listed = c.put_all-is_whole.new.self;
  lists = subst (λ (old : Mail). Lists (unheard old.since.heard c.args.duties) c.args.now old.calls c.put_all-is_whole.new.self c.put_all-is_whole.result) c.self.view_is
      (subst (λ (left : List Duty). Lists left c.args.now c.self.inside.calls c.put_all-is_whole.new.self c.put_all-is_whole.result) c.unheard-left.ensures
      (record {
        named = c.put_all-is_whole.ensures.named;
        once = c.put_all-is_whole.ensures.once;
        called = c.put_all-is_whole.ensures.called;
        put = c.put_all-is_whole.ensures.put;
        forgotten = c.put_all-is_whole.ensures.forgotten;
        only = c.put_all-is_whole.ensures.only;
        outdated = c.put_all-is_whole.ensures.outdated;
      }));
  pauses = search rules;
  rest = search rules;
}

pub returns-else-not-is_whole : goal.returns-else-not-is_whole
returns-else-not-is_whole c = record {
  is_whole = c.put_all-is_whole.result;
  listed = c.put_all-is_whole.new.self;
  lists = subst (λ (old : Mail). Lists (unheard old.since.heard c.args.duties) c.args.now old.calls c.put_all-is_whole.new.self c.put_all-is_whole.result) c.self.view_is
      (subst (λ (left : List Duty). Lists left c.args.now c.self.inside.calls c.put_all-is_whole.new.self c.put_all-is_whole.result) c.unheard-left.ensures
      (record {
        named = c.put_all-is_whole.ensures.named;
        once = c.put_all-is_whole.ensures.once;
        called = c.put_all-is_whole.ensures.called;
        put = c.put_all-is_whole.ensures.put;
        forgotten = c.put_all-is_whole.ensures.forgotten;
        only = c.put_all-is_whole.ensures.only;
        outdated = c.put_all-is_whole.ensures.outdated;
      }));
  pauses = search rules;
  rest = search rules;
}
