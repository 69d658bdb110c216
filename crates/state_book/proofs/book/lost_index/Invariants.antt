use Rattle.std.proofs.Common.{◌≡◌, None, drop}
use Rattle.state_book.specs.Looks.{lost_from}
use Rattle.state_book.proofs.book.lost_index.Given as goal

-- the receipts left give the least of all, starting from the one found so far
abbrev pub invariant-loop-receipt : goal.invariant-loop-receipt
invariant-loop-receipt l = lost_from l.trail l.found (drop l.receipt-index l.receipts) ≡ lost_from l.trail None l.receipts
