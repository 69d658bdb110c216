use Rattle.std.proofs.Common.{◌≡◌, ◌+◌, ◌≤◌, vec_len}
use Rattle.state_forest.specs.Pages.{AreEmptyLast, empty_pages, records_in}
use Rattle.state_forest.proofs.pages.keep_one.Given as goal

-- of the `dropped` last pages, all but the first were dropped
abbrev pub invariant-loop-dropped : goal.invariant-loop-dropped
invariant-loop-dropped l = record {
  same : records_in l.pages.items ≡ records_in l.initial.pages.items;
  last : AreEmptyLast l.pages.items;
  fewer : empty_pages l.pages.items + l.dropped ≡ empty_pages l.initial.pages.items + 1;
  len : vec_len l.pages ≤ vec_len l.initial.pages;
}
