use Rattle.std.proofs.Common.{◌≡◌, drop}
use Rattle.state_facts.specs.Sets.{links_of}
use Rattle.state_facts.proofs.plain.links.Given as goal

-- the links are those that the facts left tell
abbrev pub invariant-loop-fact : goal.invariant-loop-fact
invariant-loop-fact l = links_of l.facts l.id l.member ≡ links_of (drop l.fact-index l.facts) l.id l.member
