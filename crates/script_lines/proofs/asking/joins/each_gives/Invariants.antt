use Rattle.std.proofs.Common.{◌≡◌, length}
use Rattle.std.specs.List.{list_all}
use Rattle.script_lines.specs.Joins.{is_link_word}
use Rattle.script_lines.proofs.asking.joins.each_gives.Given as goal

-- what is left determines the answer
abbrev pub invariant-words : goal.invariant-words
invariant-words l = list_all is_link_word l.words ≡ list_all is_link_word l.rest

abbrev pub decreases-words : goal.decreases-words
decreases-words l = length l.rest
