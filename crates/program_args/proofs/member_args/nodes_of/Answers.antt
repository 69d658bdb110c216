use Rattle.std.proofs.Common.{◌≡◌, ◌+◌, arith}
use Rattle.program_args.proofs.NodeWords.{by_digits, from_digits, same_digits}
use Rattle.program_args.proofs.member_args.nodes_of.Goals as goal

pub returns-in_default-clause-one : goal.returns-in_default-clause-one
returns-in_default-clause-one c = λ first last low order high says.
    let e = c.in_default.ensures.one (48 + first) (48 + last) (by_digits c.args.word.now first last order high says) in cc

pub returns-in_default-node_of-clause-one : goal.returns-in_default-node_of-clause-one
returns-in_default-node_of-clause-one c = λ first last low order high says.
    let same = same_digits c.args.word.now c.in-Some.first c.in-Some.last first last c.in-Some.ensures.one order high says in
    absurd (c.in_default-node_of.ensures first low (omega arith) same.0)

pub returns-in_default-node_of-2-clause-one : goal.returns-in_default-node_of-2-clause-one
returns-in_default-node_of-2-clause-one c = λ first last low order high says.
    let same = same_digits c.args.word.now c.in-Some.first c.in-Some.last first last c.in-Some.ensures.one order high says in
    absurd (c.in_default-node_of-2.ensures last (omega arith) high same.1)

pub returns-then-first-last-clause-one : goal.returns-then-first-last-clause-one
returns-then-first-last-clause-one c = λ first last low order high says.
    let same = same_digits c.args.word.now c.in-Some.first c.in-Some.last first last c.in-Some.ensures.one order high says in
    absurd (omega arith)

pub returns-clause-one : goal.returns-clause-one
returns-clause-one c = λ first last low order high says.
    let same = same_digits c.args.word.now c.in-Some.first c.in-Some.last first last c.in-Some.ensures.one order high says in
    let one : c.in-Some-node_of.first ≡ first = omega arith in
    let two : c.in-Some-node_of-2.last ≡ last = omega arith in cc

pub returns-clause-are : goal.returns-clause-are
returns-clause-are c = (
  omega arith,
  omega arith,
  omega arith,
  from_digits c.args.word.now c.in-Some.first c.in-Some.last c.in-Some-node_of.first c.in-Some-node_of-2.last (omega arith) (omega arith) (omega arith) (omega arith) c.in-Some.ensures.is,
)
