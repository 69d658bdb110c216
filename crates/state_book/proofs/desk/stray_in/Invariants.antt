use Rattle.std.proofs.Common.{◌≡◌, drop}
use Rattle.state_book.specs.Desks.{first_stray}
use Rattle.state_book.proofs.desk.stray_in.Given as goal

abbrev pub invariant-loop-receipt : goal.invariant-loop-receipt
invariant-loop-receipt l = first_stray l.trail (drop l.receipt-index l.receipts) ≡ first_stray l.trail l.receipts
