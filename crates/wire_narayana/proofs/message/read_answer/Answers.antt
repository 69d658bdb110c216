use Rattle.wire_narayana.proofs.OneAnswer.{answer_exactly, answered, no_cut_answer}
use Rattle.wire_narayana.proofs.message.read_answer.Goals as goal

pub returns-clause-answer : goal.returns-clause-answer
returns-clause-answer g c = answered _ _ _ c.in_ok-code.code c.in_ok-code.said _ _ c.in_ok-code.ensures.head c.framing_for-framing.ensures c.in_ok-body.ensures.body

pub returns-clause-exact : goal.returns-clause-exact
returns-clause-exact g c = λ code framing body text rest so left.
    answer_exactly _ _ _ code _ framing _ body text rest (returns-clause-answer g c) so left

pub returns-clause-cut : goal.returns-clause-cut
returns-clause-cut g c = λ code framing body text more so left.
    no_cut_answer _ _ _ code _ framing _ body text more (returns-clause-answer g c) so left
