use Rattle.std.proofs.Common.{◌≡◌, ◌+◌, ◌≤◌, length, drop, filter}
use Rattle.std.specs.List.{AllByRecursion}
use Rattle.state_facts.specs.Sets.{IsNumbered, begins_held, held_at}
use Rattle.state_facts.proofs.plain.held_at.Given as goal

-- the count so far, with the facts left, is the count of all
abbrev pub invariant-loop-fact : goal.invariant-loop-fact
invariant-loop-fact l = record {
  counted : l.count + length (filter (begins_held l.facts l.home) (drop l.fact-index l.facts)) ≡ held_at l.facts l.home;
  few : l.count ≤ l.fact-index;
  numbered : AllByRecursion IsNumbered (drop l.fact-index l.facts);
}
