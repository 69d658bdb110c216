use Rattle.std.proofs.Common.{◌∙◌, arith, refl, sym}
use Rattle.node_agenda.specs.Backlogs.{is_due_of}
use Rattle.node_agenda.proofs.Circle.{tried_all, tried_first, tried_more, tried_none}
use Rattle.node_agenda.proofs.backlog.Backlog.first_due.Goals as goal

pub loop-step-init : goal.loop-step-init
loop-step-init c = tried_none c.args.self.now.last (is_due_of c.args.now c.args.self.now) c.args.self.now.last c.is_a_node.ensures.1 refl

pub returns-then-is_due_of : goal.returns-then-is_due_of
returns-then-is_due_of c =
    tried_first c.args.self.now.last (is_due_of c.args.now c.args.self.now) c.loop-step.step c.loop-step.node c.node_behind-node.result
    c.is_a_node.ensures.0 c.is_a_node.ensures.1 c.loop-step.invariant (omega (arith, c.loop-step-test.true)) c.node_behind-node.ensures
    (sym c.is_due_of.ensures ∙ c.if-is_due_of.true)

pub loop-step-preserved : goal.loop-step-preserved
loop-step-preserved c =
    tried_more c.args.self.now.last (is_due_of c.args.now c.args.self.now) c.loop-step.step c.loop-step.node c.node_behind-node.result
    c.is_a_node.ensures.0 c.is_a_node.ensures.1 c.loop-step.invariant (omega (arith, c.loop-step-test.true)) c.node_behind-node.ensures
    (sym c.is_due_of.ensures ∙ c.if-is_due_of.false)

pub returns : goal.returns
returns c =
    tried_all c.args.self.now.last (is_due_of c.args.now c.args.self.now) c.loop-step.node c.is_a_node.ensures.0 c.is_a_node.ensures.1
    c.loop-step.step (omega (arith, c.loop-step-test.false)) c.loop-step.invariant
