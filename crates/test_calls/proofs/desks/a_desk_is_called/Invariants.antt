-- The ledger and the opening of the run.
use Rattle.std.specs.Prelude.{true}
use Rattle.test_calls.proofs.desks.a_desk_is_called.Given as goal

abbrev pub ghosts-by_one-J-Ledger : goal.ghosts-by_one-J-Ledger
ghosts-by_one-J-Ledger g a = record { name = a.blank.name; parts = a.blank.parts }

abbrev pub ghosts-by_one-J-Run : goal.ghosts-by_one-J-Run
ghosts-by_one-J-Run g a = record { opening = record { node = a.book.me; view = a.book.records; own = true } }
