use Rattle.node_agenda.proofs.Unheard.{nothing_stored}
use Rattle.node_agenda.proofs.laws.nothing_is_entered_before_the_others_are_heard.Goals as goal

pub returns : goal.returns
returns c = nothing_stored
