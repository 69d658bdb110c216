use Rattle.std.proofs.Common.{◌≡◌, sym, ◌∙◌, arith}
use Rattle.std.proofs.lemmas.Fmt.{decimal_injective}
use Rattle.program_args.proofs.words.port_of.Goals as goal
use Rattle.program_args.proofs.words.port_of.Goals.{then-number-eq0-via-then-number-eq0, then-number-eq0-via-else-number-eq0+then-number-from}

pub returns-then-number-eq0 : goal.returns-then-number-eq0
returns-then-number-eq0 c = λ port low high e.
    let same : c.in-Some.number ≡ port = decimal_injective c.in-Some.number port (omega arith) (omega arith) (sym c.in-Some.ensures ∙ e) in
    elim c.then-number-eq0.branch [
      | then-number-eq0-via-then-number-eq0 w ↦ omega arith
      | then-number-eq0-via-else-number-eq0+then-number-from w ↦ omega arith
    ]
