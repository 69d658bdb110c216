use Rattle.std.proofs.Common.{take, drop}
use Rattle.std.specs.List.{AllByRecursion}
use Rattle.state_facts.specs.Sets.{IsNumbered}
use Rattle.state_forest.proofs.RecordsSoFar.{IsMade}
use Rattle.state_forest.proofs.forest.Forest.of_facts.Given as goal

-- the records so far are those of the begins so far
abbrev pub invariant-loop-fact : goal.invariant-loop-fact
invariant-loop-fact l = record {
  made : IsMade l.nodes l.home l.facts (take l.fact-index l.facts) l.forest;
  numbered : AllByRecursion IsNumbered (drop l.fact-index l.facts);
}
