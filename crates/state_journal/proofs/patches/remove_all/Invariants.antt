use Rattle.std.proofs.Common.{◌≡◌, take}
use Rattle.sqlite.specs.Held.{state}
use Rattle.sqlite.specs.State.{HasCleanDisk, KeepsCommit, Survives}
use Rattle.state_journal.specs.Tables.{GoesOn, IsWriting}
use Rattle.state_journal.specs.Stands.{RemovesRecord}
use Rattle.state_journal.specs.Turns.{InTurn}
use Rattle.state_journal.proofs.patches.remove_all.Given as goal

abbrev pub invariant-ids : goal.invariant-ids
invariant-ids g l =
    let old = state g.S.Store l.fn.tx.conn.now in
    let now = state g.S.Store l.tx.conn.now in
    (l.tx.conn.ghost_name ≡ l.fn.tx.conn.ghost_name) × Survives old now (λ _. ⊥) × (HasCleanDisk now → KeepsCommit old now)
    × (HasCleanDisk now → IsWriting old → GoesOn (InTurn RemovesRecord (take l.id-index l.removed)) old now)
