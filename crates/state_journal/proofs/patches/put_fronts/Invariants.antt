use Rattle.std.proofs.Common.{◌≡◌}
use Rattle.sqlite.specs.Held.{state}
use Rattle.sqlite.specs.State.{HasCleanDisk, KeepsCommit, Survives}
use Rattle.state_journal.specs.Tables.{GoesOn, IsWriting, SetsFronts}
use Rattle.state_journal.proofs.patches.put_fronts.Given as goal

abbrev pub invariant-places : goal.invariant-places
invariant-places g l =
    let old = state g.S.Store l.fn.tx.conn.now in
    let now = state g.S.Store l.tx.conn.now in
    (l.tx.conn.ghost_name ≡ l.fn.tx.conn.ghost_name) × Survives old now (λ _. ⊥) × (HasCleanDisk now → KeepsCommit old now)
    × (HasCleanDisk now → IsWriting old → GoesOn (SetsFronts l.front l.purges l.place) old now)
