use Rattle.std.proofs.Common.{◌≡◌, ◌+◌, ◌*◌, ◌≤◌, drop, length}
use Rattle.state_forest.specs.Pages.{records_in}
use Rattle.state_forest.proofs.pages.count_in.Given as goal

-- the records counted so far, and those of the pages that are left
abbrev pub invariant-loop-page : goal.invariant-loop-page
invariant-loop-page l = record {
  few : l.count ≤ l.page-index * 32;
  all : l.count + length (records_in (drop l.page-index l.pages)) ≡ length (records_in l.pages);
}
