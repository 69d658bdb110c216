use Rattle.std.proofs.Common.{◌≡◌, drop}
use Rattle.state_forest.specs.Gathering.{least_above, lesser_number}
use Rattle.state_forest.proofs.reading.least_above.Given as goal

-- the least so far, with the facts left, is the least of all
abbrev pub invariant-loop-fact : goal.invariant-loop-fact
invariant-loop-fact l = lesser_number l.least (least_above l.after l.id (drop l.fact-index l.facts)) ≡ least_above l.after l.id l.facts
