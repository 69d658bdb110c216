use Rattle.std.proofs.Common.{◌≡◌, ℕ, length, []}
use Rattle.theory_history.specs.Merging.{AreToldFrom}
use Rattle.state_journal.specs.LraRows.{told_at}
use Rattle.state_journal.proofs.lra_rows.empty_homes.Given as goal

-- that many homes, without records
abbrev pub invariant-places : goal.invariant-places
invariant-places l = record {
  told : AreToldFrom 1 l.homes.items;
  count : length l.homes.items ≡ l.place;
  none : (home : ℕ) → told_at l.homes.items home ≡ [];
}
