use Rattle.theory_node.proofs.Given.{grows, known, newer}
use Rattle.theory_node.proofs.laws.what_was_given_stays_known.Goals as goal

pub returns-clause-grows : goal.returns-clause-grows
returns-clause-grows c = grows c.who_is_in_doubt_stores_nothing.ensures.heard c.who_is_in_doubt_stores_nothing.ensures.looked

pub returns-clause-known : goal.returns-clause-known
returns-clause-known c = known c.who_is_in_doubt_stores_nothing.ensures.heard c.who_is_in_doubt_stores_nothing.ensures.looked c.each_frame_that_was_given_is_known.ensures

pub returns-clause-newer : goal.returns-clause-newer
returns-clause-newer c = newer c.who_is_in_doubt_stores_nothing.ensures.heard c.who_is_in_doubt_stores_nothing.ensures.looked c.each_frame_that_was_given_is_known.ensures
