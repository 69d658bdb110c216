-- The ledger and the opening of the run.
use Rattle.std.specs.Prelude.{false}
use Rattle.test_server.proofs.workers.two_workers_on_one_desk.Given as goal

abbrev pub ghosts-by_two-J-Ledger : goal.ghosts-by_two-J-Ledger
ghosts-by_two-J-Ledger g a = record { name = a.blank.name; parts = a.blank.parts }

abbrev pub ghosts-by_two-J-Run : goal.ghosts-by_two-J-Run
ghosts-by_two-J-Run g a = record { opening = record { node = a.book.me; view = a.book.records; own = false } }
