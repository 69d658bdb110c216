use Rattle.std.proofs.Common.{◌≡◌, drop}
use Rattle.state_ids.specs.States.{greater}
use Rattle.state_facts.specs.Sets.{heard}
use Rattle.state_facts.proofs.plain.greatest_report.Given as goal

-- the greatest so far, with the facts left, is the greatest of all
abbrev pub invariant-loop-fact : goal.invariant-loop-fact
invariant-loop-fact l = greater l.greatest (heard (drop l.fact-index l.facts) l.id l.member l.act) ≡ heard l.facts l.id l.member l.act
