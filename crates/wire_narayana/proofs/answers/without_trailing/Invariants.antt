use Rattle.std.proofs.Common.{◌≡◌, length}
use Rattle.wire_narayana.specs.Saying.{without_trailing}
use Rattle.wire_narayana.proofs.answers.without_trailing.Given as goal

-- nothing but blanks was taken
abbrev pub invariant-loop-rest : goal.invariant-loop-rest
invariant-loop-rest l = without_trailing l.rest ≡ without_trailing l.fn.text

abbrev pub decreases-loop-rest : goal.decreases-loop-rest
decreases-loop-rest l = length l.rest
