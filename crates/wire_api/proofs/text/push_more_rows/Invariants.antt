use Rattle.std.proofs.Common.{◌≡◌, ◌++◌, drop}
use Rattle.wire_api.specs.Texts.{more_rows}
use Rattle.wire_api.proofs.text.push_more_rows.Given as goal

abbrev pub invariant-loop-row : goal.invariant-loop-row
invariant-loop-row l = l.body.items ++ more_rows (drop l.row-index l.rows) ≡ l.fn.body.items ++ more_rows l.rows
