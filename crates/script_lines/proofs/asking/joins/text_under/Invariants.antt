use Rattle.std.proofs.Common.{◌≡◌, length}
use Rattle.script_lines.specs.Joins.{text_under}
use Rattle.script_lines.proofs.asking.joins.text_under.Given as goal

-- what is left determines the answer
abbrev pub invariant-words : goal.invariant-words
invariant-words l = text_under l.name l.words ≡ text_under l.name l.rest

abbrev pub decreases-words : goal.decreases-words
decreases-words l = length l.rest
