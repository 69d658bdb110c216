use Rattle.std.proofs.Common.{◌≡◌, drop}
use Rattle.state_forest.specs.Records.{deadline_of}
use Rattle.state_forest.proofs.reading.deadline.Given as goal

-- the deadline is the one that the facts left tell
abbrev pub invariant-loop-fact : goal.invariant-loop-fact
invariant-loop-fact l = deadline_of l.facts l.id ≡ deadline_of (drop l.fact-index l.facts) l.id
