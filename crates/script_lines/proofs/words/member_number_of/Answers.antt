use Rattle.std.proofs.Common.{◌<◌, ◌^◌, arith}
use Rattle.script_lines.proofs.DecimalNumbers.{one_number}
use Rattle.script_lines.proofs.words.member_number_of.Goals as goal
use Rattle.script_lines.proofs.words.member_number_of.Goals.{then-number-eq0-via-then-number-eq0, then-number-eq0-via-else-number-eq0+then-number}

pub returns-then-number-eq0 : goal.returns-then-number-eq0
returns-then-number-eq0 c = λ m of e.
    let number : c.in_ok-number.number < 2 ^ 64 = omega arith in
    let small : m < 2 ^ 64 = omega (arith, of.1) in
    let same = one_number c.args.word.now c.in_ok-number.number m number small c.in_ok-number.ensures e in
    elim c.then-number-eq0.branch [
      | then-number-eq0-via-then-number-eq0 w ↦ absurd (omega (arith, same, of.0, w.if-number-eq0.true))
      | then-number-eq0-via-else-number-eq0+then-number w ↦ absurd (omega (arith, same, of.1, w.if-number.true))
    ]
