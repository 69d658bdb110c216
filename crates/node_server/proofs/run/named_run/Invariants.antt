-- The ledger and the opening of the run.
use Rattle.std.specs.Prelude.{false}
use Rattle.node_server.proofs.run.named_run.Given as goal

abbrev pub ghosts-run-J-Ledger : goal.ghosts-run-J-Ledger
ghosts-run-J-Ledger g a = record { name = a.blank.name; parts = a.blank.parts }

abbrev pub ghosts-run-J-Run : goal.ghosts-run-J-Run
ghosts-run-J-Run g a = record { opening = record { node = a.book.me; view = a.book.records; own = false } }
