use Rattle.std.proofs.Common.{◌≡◌}
use Rattle.sqlite.specs.Held.{state}
use Rattle.sqlite.specs.State.{HasCleanDisk, KeepsCommit, Survives}
use Rattle.state_journal.specs.Tables.{IsWriting}
use Rattle.state_journal.proofs.RewriteSteps.{IsSoFar}
use Rattle.state_journal.proofs.rewriting.put_records.Given as goal

abbrev pub invariant-records : goal.invariant-records
invariant-records g l =
    let old = state g.S.Store l.fn.tx.conn.now in
    let now = state g.S.Store l.tx.conn.now in
    (l.tx.conn.ghost_name ≡ l.fn.tx.conn.ghost_name) × Survives old now (λ _. ⊥) × (HasCleanDisk now → KeepsCommit old now)
    × (HasCleanDisk now → IsWriting old → IsSoFar l.fn.records l.kept-iterator old now)
