use Rattle.std.proofs.Common.{◌≡◌, max, drop}
use Rattle.state_forest.specs.Records.{stamp}
use Rattle.state_forest.proofs.reading.stamp.Given as goal

-- the greatest so far, with the facts left, is the greatest of all
abbrev pub invariant-loop-fact : goal.invariant-loop-fact
invariant-loop-fact l = max l.greatest (stamp (drop l.fact-index l.facts) l.id l.node) ≡ stamp l.facts l.id l.node
