use Rattle.std.proofs.Common.{◌≡◌, ◌≤◌, [], drop, length}
use Rattle.state_forest.specs.Pages.{records_in}
use Rattle.state_forest.proofs.pages.last_seat.Given as goal

-- no record stands behind the page
abbrev pub invariant-down : goal.invariant-down
invariant-down l = record {
  within : l.count ≤ length l.pages;
  none : records_in (drop l.count l.pages) ≡ [];
}

abbrev pub decreases-down : goal.decreases-down
decreases-down l = l.count
