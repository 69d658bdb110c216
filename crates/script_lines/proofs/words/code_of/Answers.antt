use Rattle.std.proofs.Common.{arith, ◌<◌, ◌^◌}
use Rattle.script_lines.proofs.DecimalNumbers.{one_number}
use Rattle.script_lines.proofs.words.code_of.Goals as goal

pub returns-then-number-from : goal.returns-then-number-from
returns-then-number-from c = λ n small e.
    let number : c.in_ok-number.number < 2 ^ 64 = omega arith in
    let wide : n < 2 ^ 64 = omega (arith, small) in
    let same = one_number c.args.word.now c.in_ok-number.number n number wide c.in_ok-number.ensures e in
    absurd (omega (arith, same, small))
