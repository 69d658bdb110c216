use Rattle.std.proofs.Common.{◌≡◌, length}
use Rattle.script_lines.specs.Joins.{is_once}
use Rattle.script_lines.proofs.asking.joins.is_once.Given as goal

-- what is left determines the answer
abbrev pub invariant-words : goal.invariant-words
invariant-words l = is_once l.name l.words ≡ is_once l.name l.rest

abbrev pub decreases-words : goal.decreases-words
decreases-words l = length l.rest
