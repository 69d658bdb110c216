use Rattle.std.proofs.Common.{◌≡◌, [], length}
use Rattle.state_forest.specs.Pages.{records_in}
use Rattle.state_forest.proofs.pages.first_taken.Given as goal

-- nothing is left of the page, and what is left of the others is all
abbrev pub invariant-over : goal.invariant-over
invariant-over l = record {
  page : l.page.rest.items ≡ [];
  all : records_in l.pages.rest.items ≡ records_in l.initial.pages.rest.items;
}

abbrev pub decreases-over : goal.decreases-over
decreases-over l = length l.pages.rest.items
