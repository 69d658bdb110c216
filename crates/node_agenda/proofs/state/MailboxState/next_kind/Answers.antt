use Rattle.std.proofs.Common.{◌∙◌, ap, arith, sym}
use Rattle.node_agenda.specs.Mail.{Mail}
use Rattle.node_agenda.specs.Tasks.{has}
use Rattle.node_agenda.proofs.Firsts.{tried_all, tried_first, tried_more, tried_none}
use Rattle.node_agenda.proofs.state.MailboxState.next_kind.Goals as goal

pub loop-turn-init : goal.loop-turn-init
loop-turn-init c = tried_none c.args.self.now.last (has c.args.now c.args.self.now) c.self.inside.last (ap (λ (m : Mail). m.last) c.self.view_is)

pub returns-then-has : goal.returns-then-has
returns-then-has c =
    tried_first c.args.self.now.last (has c.args.now c.args.self.now) c.loop-turn.turn c.loop-turn.kind c.next-kind.result c.loop-turn.invariant
    (omega (arith, c.loop-turn-test.true)) c.next-kind.ensures (sym c.has.ensures ∙ c.if-has.true)

pub loop-turn-preserved : goal.loop-turn-preserved
loop-turn-preserved c =
    tried_more c.args.self.now.last (has c.args.now c.args.self.now) c.loop-turn.turn c.loop-turn.kind c.next-kind.result c.loop-turn.invariant
    c.next-kind.ensures (sym c.has.ensures ∙ c.if-has.false)

pub returns : goal.returns
returns c = tried_all c.args.self.now.last (has c.args.now c.args.self.now) c.loop-turn.turn c.loop-turn.kind c.loop-turn.invariant (omega (arith, c.loop-turn-test.false))
