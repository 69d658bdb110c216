use Rattle.std.proofs.Common.{◌≡◌, ◌≤◌, ℕ, length}
use Rattle.state_forest.specs.Forests.{AreOf}
use Rattle.theory_history.specs.Merging.{AreToldFrom}
use Rattle.state_journal.specs.LraRows.{AreRecordRows, told_at}
use Rattle.state_journal.proofs.lra_rows.homes_of.Given as goal

-- the rows so far are those of the records that were put
abbrev pub invariant-rows : goal.invariant-rows
invariant-rows l = record {
  told : AreToldFrom 1 l.homes.items;
  count : length l.homes.items ≡ length l.front;
  order : (home : ℕ) → 1 ≤ home → AreOf home (told_at l.homes.items home);
  right : AreRecordRows l.fn.version l.front l.rows l.place (told_at l.homes.items);
}
