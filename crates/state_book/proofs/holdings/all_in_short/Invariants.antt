use Rattle.std.proofs.Common.{◌≡◌, ◌++◌, drop}
use Rattle.theory_history.specs.Views.{record_at}
use Rattle.state_replica.specs.Replicas.{view_of}
use Rattle.state_book.specs.Holdings.{summaries_of}
use Rattle.state_book.specs.Trees.{tree_on}
use Rattle.state_book.proofs.holdings.all_in_short.Given as goal

-- the summaries that were pushed, followed by those of the rows left, are all
abbrev pub invariant-loop-row : goal.invariant-loop-row
invariant-loop-row l = l.list.items ++ summaries_of (tree_on (view_of l.replica)) (record_at (view_of l.replica)) (drop l.row-index l.rows) ≡ summaries_of (tree_on (view_of l.replica)) (record_at (view_of l.replica)) l.rows
