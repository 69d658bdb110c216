use Rattle.std.proofs.Common.{◌≡◌, length}
use Rattle.wire_callbacks.specs.Answers.{without_leading}
use Rattle.wire_callbacks.proofs.answer.without_leading.Given as goal

-- nothing but blanks was taken
abbrev pub invariant-loop-rest : goal.invariant-loop-rest
invariant-loop-rest l = without_leading l.rest ≡ without_leading l.fn.text

abbrev pub decreases-loop-rest : goal.decreases-loop-rest
decreases-loop-rest l = length l.rest
