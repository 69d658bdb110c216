use Rattle.std.proofs.Common.{◌≡◌, None, take}
use Rattle.sqlite.specs.Held.{state}
use Rattle.sqlite.specs.State.{HasCleanDisk, KeepsCommit, Survives}
use Rattle.state_journal.specs.Rewriting.{MakesRow}
use Rattle.state_journal.specs.Stands.{PutsRecord}
use Rattle.state_journal.specs.Tables.{GoesOn, IsWriting}
use Rattle.state_journal.specs.Turns.{InTurn}
use Rattle.state_journal.proofs.RewriteSteps.{records_of}
use Rattle.state_journal.proofs.rewriting.put_homes.Given as goal

abbrev pub invariant-homes : goal.invariant-homes
invariant-homes g l =
    let old = state g.S.Store l.fn.tx.conn.now in
    let now = state g.S.Store l.tx.conn.now in
    (l.tx.conn.ghost_name ≡ l.fn.tx.conn.ghost_name) × Survives old now (λ _. ⊥) × (HasCleanDisk now → KeepsCommit old now)
    × (HasCleanDisk now → IsWriting old → GoesOn (InTurn PutsRecord (records_of (take l.home-index l.homes))) old now)
    × (HasCleanDisk now → IsWriting old → old.step_limit ≡ None → InTurn MakesRow (records_of (take l.home-index l.homes)) old.now.trees now.now.trees)
