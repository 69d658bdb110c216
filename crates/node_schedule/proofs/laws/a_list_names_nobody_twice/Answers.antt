use Rattle.wire_callbacks.proofs.Viewed.{all_of_view}
use Rattle.wire_callbacks.specs.ViewDuties.{duties_of}
use Rattle.node_schedule.proofs.OnceDue.{named_once}
use Rattle.node_schedule.proofs.laws.a_list_names_nobody_twice.Goals as goal

pub returns-clause-set : goal.returns-clause-set
returns-clause-set c = named_once

pub returns-clause-view : goal.returns-clause-view
returns-clause-view c = λ S view me settled stands first last.
    named_once me S (duties_of view me) (all_of_view S view me settled stands first last)
