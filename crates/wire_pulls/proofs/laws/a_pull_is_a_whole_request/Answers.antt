use Rattle.wire_pulls.proofs.Wholes.{bare_pull, whole_pull}
use Rattle.wire_pulls.proofs.laws.a_pull_is_a_whole_request.Goals as goal

pub returns-clause-bare : goal.returns-clause-bare
returns-clause-bare c = bare_pull

pub returns-clause-query : goal.returns-clause-query
returns-clause-query c = whole_pull
