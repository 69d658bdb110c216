use Rattle.std.proofs.Common.{◌≡◌, take, count_by, sum_by, min}
use Rattle.state_book.specs.Desks.{names}
use Rattle.state_book.proofs.desk.is_named_once.Given as goal

abbrev pub invariant-loop-pass : goal.invariant-loop-pass
invariant-loop-pass g l = l.count ≡ min 2 (sum_by (λ p. count_by (names l.index l.entry) p.receipts) (take l.pass-index l.passes))
