use Rattle.wire_api.proofs.WrongBodies.{nothing_wrong, unknown_named, wrong_exactly}
use Rattle.wire_api.proofs.laws.only_what_is_refused_or_unknown_is_wrong.Goals as goal

pub returns-clause-exact : goal.returns-clause-exact
returns-clause-exact c = wrong_exactly

pub returns-clause-named : goal.returns-clause-named
returns-clause-named c = unknown_named

pub returns-clause-none : goal.returns-clause-none
returns-clause-none c = nothing_wrong
