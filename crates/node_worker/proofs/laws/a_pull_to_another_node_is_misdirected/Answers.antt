use Rattle.node_worker.proofs.Directed.{misdirected, unnamed}
use Rattle.node_worker.proofs.Queries.{query_fits}
use Rattle.node_worker.proofs.laws.a_pull_to_another_node_is_misdirected.Goals as goal

pub returns-clause-exact : goal.returns-clause-exact
returns-clause-exact c = misdirected

pub returns-clause-query : goal.returns-clause-query
returns-clause-query c = query_fits

pub returns-clause-unnamed : goal.returns-clause-unnamed
returns-clause-unnamed c = unnamed
