use Rattle.std.proofs.Common.{◌≡◌, ◌+◌, ◌≤◌}
use Rattle.state_facts.specs.Sets.{depth}
use Rattle.state_facts.proofs.plain.depth_of.Given as goal

-- each step up is one of the depth, and leads to a lesser number
abbrev pub invariant-above : goal.invariant-above
invariant-above l = record {
  counted : l.depth + depth l.facts l.at ≡ depth l.facts l.fn.id + 1;
  few : l.depth + l.at.num ≤ l.fn.id.num + 1;
}

abbrev pub decreases-above : goal.decreases-above
decreases-above l = l.at.num
