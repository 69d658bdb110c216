use Rattle.std.proofs.Common.{◌≡◌, ◌++◌, drop}
use Rattle.wire_http.specs.MessageTexts.{field_lines}
use Rattle.wire_http.proofs.text.push_fields.Given as goal

abbrev pub invariant-loop-field : goal.invariant-loop-field
invariant-loop-field l = l.text.items ++ field_lines (drop l.field-index l.fields) ≡ l.fn.text.items ++ field_lines l.fields
