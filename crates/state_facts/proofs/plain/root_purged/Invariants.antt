use Rattle.std.proofs.Common.{◌≡◌}
use Rattle.std.specs.List.{list_any}
use Rattle.state_facts.specs.Sets.{chain, is_purged_root}
use Rattle.state_facts.proofs.plain.root_purged.Given as goal

-- the test has the same result as from the LRA that was reached
abbrev pub invariant-above : goal.invariant-above
invariant-above l = list_any (is_purged_root l.facts) (chain l.facts l.fn.id) ≡ list_any (is_purged_root l.facts) (chain l.facts l.at)

abbrev pub decreases-above : goal.decreases-above
decreases-above l = l.at.num
