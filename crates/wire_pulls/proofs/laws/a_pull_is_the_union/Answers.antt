use Rattle.wire_pulls.proofs.Unions.{pull_some, pull_union}
use Rattle.wire_pulls.proofs.laws.a_pull_is_the_union.Goals as goal

pub returns-clause-some : goal.returns-clause-some
returns-clause-some c = pull_some

pub returns-clause-union : goal.returns-clause-union
returns-clause-union c = pull_union
