use Rattle.std.proofs.Common.{◌≡◌}
use Rattle.std.specs.List.{list_any}
use Rattle.state_facts.specs.Sets.{chain, is_decided}
use Rattle.state_facts.proofs.plain.decided_above.Given as goal

-- the test has the same result as from the LRA that was reached
abbrev pub invariant-above : goal.invariant-above
invariant-above l = list_any (is_decided l.facts l.verdict) (chain l.facts l.fn.id) ≡ list_any (is_decided l.facts l.verdict) (chain l.facts l.at)

abbrev pub decreases-above : goal.decreases-above
decreases-above l = l.at.num
