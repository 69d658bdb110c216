use Rattle.std.proofs.Common.{◌≡◌, ◌++◌, drop, string_bytes}
use Rattle.script_lines.specs.CallLines.{further_text}
use Rattle.script_lines.proofs.calls.push_further.Given as goal

-- together with the texts of the duties that are left, this is the whole text
abbrev pub invariant-loop-duty : goal.invariant-loop-duty
invariant-loop-duty l = string_bytes l.text ++ further_text (drop l.duty-index l.duties) ≡ string_bytes l.initial.text ++ further_text l.duties
