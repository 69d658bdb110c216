use Rattle.state_journal.proofs.RuledViews.{history_rules}
use Rattle.state_journal.proofs.laws.views_of_a_history_keep_the_rules.Goals as goal

pub returns : goal.returns
returns c =
    history_rules c.frames_of_a_history_keep_the_rules.ensures c.records_of_a_history_have_an_encoding.ensures.fit c.records_of_a_history_have_an_encoding.ensures.rules c.views_of_a_history_have_the_shape.ensures.view
