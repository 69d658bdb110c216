use Rattle.std.proofs.Common.{◌≡◌}
use Rattle.std.specs.List.{list_any}
use Rattle.state_ids.specs.Ids.{same_id}
use Rattle.state_facts.specs.Sets.{chain}
use Rattle.state_facts.proofs.plain.under.Given as goal

-- the test has the same result as from the LRA that was reached
abbrev pub invariant-above : goal.invariant-above
invariant-above l = list_any (same_id l.id) (chain l.facts l.fn.inner) ≡ list_any (same_id l.id) (chain l.facts l.at)

abbrev pub decreases-above : goal.decreases-above
decreases-above l = l.at.num
