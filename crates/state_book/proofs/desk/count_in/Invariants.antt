use Rattle.std.proofs.Common.{◌≡◌, take, count_by}
use Rattle.state_book.specs.Desks.{names}
use Rattle.state_book.proofs.desk.count_in.Given as goal

abbrev pub invariant-loop-receipt : goal.invariant-loop-receipt
invariant-loop-receipt l = l.count ≡ count_by (names l.index l.entry) (take l.receipt-index l.receipts)
