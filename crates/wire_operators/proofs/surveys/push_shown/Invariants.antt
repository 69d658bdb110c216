use Rattle.std.proofs.Common.{◌≡◌, ◌++◌, drop, false}
use Rattle.wire_operators.specs.Surveys.{shown_text}
use Rattle.wire_operators.proofs.surveys.push_shown.Given as goal

abbrev pub invariant-loop-row : goal.invariant-loop-row
invariant-loop-row l = l.body.items ++ shown_text l.filter l.is_behind (drop l.row-index l.rows) ≡ l.fn.body.items ++ shown_text l.filter false l.rows
