use Rattle.std.proofs.Common.{is_some}
use Rattle.state_forest.specs.Said.{is_ended_at, want_at}
use Rattle.state_forest.specs.Shape.{found_at}
use Rattle.state_forest.proofs.forest.Forest.root_of.Goals as goal

pub returns-clause-over : goal.returns-clause-over
returns-clause-over c = c.root_met.ensures (is_ended_at (found_at c.args.self.now.home c.args.self.now.records))

pub returns-clause-decided : goal.returns-clause-decided
returns-clause-decided c = let at = found_at c.args.self.now.home c.args.self.now.records in c.root_met.ensures (λ root. is_some (want_at at root))
