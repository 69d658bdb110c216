use Rattle.std.proofs.Common.{◌≡◌, length}
use Rattle.std.specs.List.{list_any}
use Rattle.script_lines.specs.Joins.{gives}
use Rattle.script_lines.proofs.asking.joins.is_given.Given as goal

-- what is left determines the answer
abbrev pub invariant-words : goal.invariant-words
invariant-words l = list_any (gives l.name) l.words ≡ list_any (gives l.name) l.rest

abbrev pub decreases-words : goal.decreases-words
decreases-words l = length l.rest
