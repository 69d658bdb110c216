use Rattle.std.proofs.Common.{◌≡◌, length}
use Rattle.theory_history.specs.Readings.{by_view}
use Rattle.state_replica.specs.Replicas.{view_of}
use Rattle.state_replica.proofs.Paging.{AreRows}
use Rattle.state_replica.proofs.replica.Replica.next_rows.Given as goal

-- there are as many rows as steps: those of all held LRAs up to the last one
abbrev pub invariant-loop : goal.invariant-loop
invariant-loop l = record {
  count : length l.rows.items ≡ l.counter;
  rows : AreRows (by_view (view_of l.self)) l.fn.after l.last l.rows.items;
}
