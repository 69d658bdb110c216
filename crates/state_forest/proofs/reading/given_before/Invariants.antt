use Rattle.std.proofs.Common.{◌≡◌, ◌≤◌, ◌+◌, ◌&&◌, drop, filter, length, nat_lt}
use Rattle.state_facts.specs.Sets.{gives_number, member_number}
use Rattle.state_forest.proofs.reading.given_before.Given as goal

-- the count so far, with the facts left, is the count of all
abbrev pub invariant-loop-fact : goal.invariant-loop-fact
invariant-loop-fact l = record {
  counted : l.before + length (filter (λ f. gives_number l.id f.body && nat_lt f.num l.num) (drop l.fact-index l.facts)) + 1 ≡ member_number l.facts l.id l.num;
  few : l.before ≤ l.fact-index;
}
