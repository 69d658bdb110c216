use Rattle.std.proofs.Common.{◌≡◌, ◌≤◌, ◌+◌, drop}
use Rattle.state_book.specs.Books.{moves_in}
use Rattle.state_book.proofs.book.moves_in.Given as goal

-- the entries left are still to be counted
abbrev pub invariant-loop-entry : goal.invariant-loop-entry
invariant-loop-entry l = (l.moves + moves_in (drop l.entry-index l.trail) ≡ moves_in l.trail) × (l.moves ≤ l.entry-index)
