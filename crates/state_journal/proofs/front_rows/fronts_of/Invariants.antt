use Rattle.std.proofs.Common.{◌≡◌, ◌≤◌, ℕ, length}
use Rattle.state_ids.specs.Fronts.{count}
use Rattle.state_journal.specs.FrontRows.{IsSaid}
use Rattle.state_journal.proofs.front_rows.fronts_of.Given as goal

-- the rows of the nodes so far are right, and say these counts
abbrev pub invariant-nodes : goal.invariant-nodes
invariant-nodes l = record {
  front : length l.front ≡ l.fn.nodes;
  purges : length l.purges ≡ l.fn.nodes;
  each : (node : ℕ) → 1 ≤ node → node ≤ l.place → IsSaid l.rows node (count l.front node) (count l.purges node);
}
