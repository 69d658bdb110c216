use Rattle.theory_node.proofs.Doubted.{cast, refused, rests, says, stays}
use Rattle.theory_node.proofs.laws.one_in_doubt_stays_in_doubt.Goals as goal

pub returns-clause-cast : goal.returns-clause-cast
returns-clause-cast c = cast c.who_is_in_doubt_stores_nothing.ensures.heard c.who_is_in_doubt_stores_nothing.ensures.looked c.who_is_in_doubt_stores_nothing.ensures.told

pub returns-clause-stays : goal.returns-clause-stays
returns-clause-stays c = stays c.who_is_in_doubt_stores_nothing.ensures.heard c.who_is_in_doubt_stores_nothing.ensures.looked

pub returns-clause-refused : goal.returns-clause-refused
returns-clause-refused c = refused c.who_is_in_doubt_stores_nothing.ensures.heard c.who_is_in_doubt_stores_nothing.ensures.looked c.who_is_in_doubt_stores_nothing.ensures.refused

pub returns-clause-rests : goal.returns-clause-rests
returns-clause-rests c =
    rests c.who_is_in_doubt_stores_nothing.ensures.heard c.who_is_in_doubt_stores_nothing.ensures.looked c.nothing_is_entered_before_the_others_are_heard.ensures

pub returns-clause-says : goal.returns-clause-says
returns-clause-says c = says c.who_is_in_doubt_stores_nothing.ensures.heard c.who_is_in_doubt_stores_nothing.ensures.looked
