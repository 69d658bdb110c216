use Rattle.std.proofs.Common.{◌≡◌, ◌+◌, ◌≤◌, ◌^◌, vec_len}
use Rattle.state_forest.specs.Pages.{AreEmptyLast, empty_pages, records_in, weight_in}
use Rattle.state_forest.proofs.pages.add_pages.Given as goal

-- `added` pages were added
abbrev pub invariant-loop-added : goal.invariant-loop-added
invariant-loop-added l = record {
  same : records_in l.pages.items ≡ records_in l.initial.pages.items;
  last : AreEmptyLast l.pages.items;
  few : vec_len l.pages ≤ 2 ^ 32;
  weight : weight_in l.pages.items ≡ weight_in l.initial.pages.items;
  more : empty_pages l.pages.items ≡ empty_pages l.initial.pages.items + l.added;
}
