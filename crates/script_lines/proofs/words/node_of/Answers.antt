use Rattle.std.proofs.Common.{arith, ◌<◌, ◌^◌}
use Rattle.script_lines.proofs.DecimalNumbers.{one_number}
use Rattle.script_lines.proofs.words.node_of.Goals as goal

pub returns-then-number-from : goal.returns-then-number-from
returns-then-number-from c = λ node of e.
    let number : c.in_ok-number.number < 2 ^ 64 = omega arith in
    let small : node < 2 ^ 64 = omega (arith, of.1, c.requires) in
    let same = one_number c.args.word.now c.in_ok-number.number node number small c.in_ok-number.ensures e in
    absurd (omega (arith, same, of.1))

pub returns-in-Err : goal.returns-in-Err
returns-in-Err c = λ node of e.
    let number : c.in_ok-number.number < 2 ^ 64 = omega arith in
    let small : node < 2 ^ 64 = omega (arith, of.1, c.requires) in
    let same = one_number c.args.word.now c.in_ok-number.number node number small c.in_ok-number.ensures e in
    c.in-Err.ensures.exact (omega (arith, same, of.0), omega (arith, same, of.1, c.requires))
