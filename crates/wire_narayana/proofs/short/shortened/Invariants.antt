use Rattle.std.proofs.Common.{◌≡◌, drop}
use Rattle.wire_narayana.specs.Carrying.{shortened}
use Rattle.wire_narayana.proofs.short.shortened.Given as goal

-- None of the long forms looked at so far begins the rest of the link.
abbrev pub invariant-loop-short : goal.invariant-loop-short
invariant-loop-short l = shortened (drop l.short-index l.shorts) l.rest ≡ shortened l.shorts l.rest
