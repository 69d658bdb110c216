use Rattle.std.proofs.Common.{◌≡◌, drop}
use Rattle.wire_narayana.specs.Carrying.{spelled}
use Rattle.wire_narayana.proofs.short.spelled.Given as goal

-- None of the short forms looked at so far begins the rest of the link.
abbrev pub invariant-loop-short : goal.invariant-loop-short
invariant-loop-short l = spelled (drop l.short-index l.shorts) l.rest ≡ spelled l.shorts l.rest
