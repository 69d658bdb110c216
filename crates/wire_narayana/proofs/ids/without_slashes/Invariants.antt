use Rattle.std.proofs.Common.{◌≡◌, length}
use Rattle.wire_narayana.specs.Naming.{without_slashes}
use Rattle.wire_narayana.proofs.ids.without_slashes.Given as goal

-- nothing but slashes was taken
abbrev pub invariant-loop-rest : goal.invariant-loop-rest
invariant-loop-rest l = without_slashes l.rest ≡ without_slashes l.fn.path

abbrev pub decreases-loop-rest : goal.decreases-loop-rest
decreases-loop-rest l = length l.rest
