use Rattle.std.proofs.Common.{◌≡◌, drop}
use Rattle.state_facts.specs.Sets.{parent_of}
use Rattle.state_facts.proofs.plain.parent.Given as goal

-- the parent is the one that the facts left tell
abbrev pub invariant-loop-fact : goal.invariant-loop-fact
invariant-loop-fact l = parent_of l.facts l.id ≡ parent_of (drop l.fact-index l.facts) l.id
