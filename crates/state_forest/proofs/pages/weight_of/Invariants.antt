use Rattle.std.proofs.Common.{◌≡◌, ◌+◌, ◌*◌, ◌≤◌, drop}
use Rattle.state_forest.specs.Pages.{weight_behind, weight_in}
use Rattle.state_forest.proofs.pages.weight_of.Given as goal

-- the weight so far, except for the last page with records, and from there on that of the pages
-- that are left
abbrev pub invariant-loop-page : goal.invariant-loop-page
invariant-loop-page l = record {
  few : l.weight ≤ l.page-index * 32;
  last : l.count ≤ 32;
  all : l.weight + weight_behind l.count (drop l.page-index l.pages) ≡ weight_in l.pages;
}
