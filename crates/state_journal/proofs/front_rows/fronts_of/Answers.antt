use Rattle.std.proofs.Common.{◌≡◌, ◌∙◌, arith, length, ap, subst}
use Rattle.std.proofs.lemmas.List.{length-set}
use Rattle.state_journal.proofs.FrontPlaces.{are_fronts, breaks_first, breaks_next, breaks_past, one_node_more, AreSaid}
use Rattle.state_journal.proofs.front_rows.fronts_of.Goals as goal

pub returns-in_default-clause-breaks : goal.returns-in_default-clause-breaks
returns-in_default-clause-breaks c = breaks_first c.args.me c.args.nodes c.args.rows.now c.in_default.ensures.none

pub returns-in-None-clause-breaks : goal.returns-in-None-clause-breaks
returns-in-None-clause-breaks c = breaks_next c.in-Some.version c.args.me c.args.nodes c.args.rows.now c.in-Some.ensures.some c.nodes.place c.nodes.front c.nodes.purges c.nodes-test.true c.nodes.invariant.each c.in-None.ensures.none

pub nodes-preserved : goal.nodes-preserved
nodes-preserved c = record {
  front = ap length c.set.ensures ∙ length-set c.nodes.front _ _ ∙ c.nodes.invariant.front;
  purges = ap length c.set-in-nodes.ensures ∙ length-set c.nodes.purges _ _ ∙ c.nodes.invariant.purges;
  each = one_node_more c.args.rows.now c.nodes.front c.nodes.purges _ _ c.args.nodes c.nodes.place c.node_at-node.result _ _ c.node_at-node.ensures c.nodes-test.true c.nodes.invariant.front c.nodes.invariant.purges
      c.set.ensures c.set-in-nodes.ensures c.nodes.invariant.each c.in-Some-said_of.ensures.some;
}

pub returns-then-rows-nodes-clause-breaks : goal.returns-then-rows-nodes-clause-breaks
returns-then-rows-nodes-clause-breaks c =
    let all : c.nodes.place ≡ c.args.nodes = omega (arith, c.nodes-test.false, c.nodes.auto) in
    breaks_past c.in-Some.version c.args.me c.args.nodes c.args.rows.now c.in-Some.ensures.some c.nodes.front c.nodes.purges (subst (AreSaid c.args.rows.now c.nodes.front c.nodes.purges) all c.nodes.invariant.each) c.if-rows-nodes.true

pub returns-clause-right : goal.returns-clause-right
returns-clause-right c =
    let all : c.nodes.place ≡ c.args.nodes = omega (arith, c.nodes-test.false, c.nodes.auto) in
    are_fronts c.in-Some.version c.args.me c.args.nodes c.args.rows.now c.in-Some.ensures.some c.nodes.front c.nodes.purges c.requires.some c.nodes.invariant.front c.nodes.invariant.purges
    (subst (AreSaid c.args.rows.now c.nodes.front c.nodes.purges) all c.nodes.invariant.each) (omega (arith, c.if-rows-nodes.false))
