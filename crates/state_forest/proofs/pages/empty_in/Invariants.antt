use Rattle.std.proofs.Common.{◌≡◌, ◌+◌, ◌≤◌, drop}
use Rattle.state_forest.specs.Pages.{empty_pages}
use Rattle.state_forest.proofs.pages.empty_in.Given as goal

-- the empty pages counted so far, and those of the pages that are left
abbrev pub invariant-loop-page : goal.invariant-loop-page
invariant-loop-page l = record {
  few : l.count ≤ l.page-index;
  all : l.count + empty_pages (drop l.page-index l.pages) ≡ empty_pages l.pages;
}
