use Rattle.std.proofs.Common.{◌≡◌, ◌++◌}
use Rattle.wire_operators.specs.Records.{rows_to}
use Rattle.wire_operators.proofs.records.push_rows.Given as goal

abbrev pub invariant-loop-place : goal.invariant-loop-place
invariant-loop-place l = l.body.items ≡ l.fn.body.items ++ rows_to l.holding l.place
