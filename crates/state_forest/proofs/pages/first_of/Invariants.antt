use Rattle.std.proofs.Common.{◌≡◌, ◌++◌, length}
use Rattle.state_forest.specs.Pages.{records_in}
use Rattle.state_forest.proofs.pages.first_of.Given as goal

-- the same records are left
abbrev pub invariant-over : goal.invariant-over
invariant-over l = l.page ++ records_in l.pages ≡ l.initial.page ++ records_in l.initial.pages

abbrev pub decreases-over : goal.decreases-over
decreases-over l = length l.pages
